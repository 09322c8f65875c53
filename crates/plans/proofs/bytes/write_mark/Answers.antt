-- `plans::bytes::write_mark` meets its contract: two bytes that are stored one after the other. Assumes nothing.
use Prim.Native.Nat.{◌/◌, ◌%◌}
use native.Mathlib.Omega.{arith}
use native.Mathlib.Nat.{div-one}
use mathlib.Core.Path.{refl}
use mathlib.Core.List.{[], ◌∷◌}
use lib.ListN.{length-set}
use Rattle.codec.specs.Fixed.{big_endian}
use Rattle.codec.proofs.Laws.Splice.{splice_one, splices_2}
use Rattle.plans.proofs.bytes.write_mark.Goals as goal

pub bounds-out-to-2 : goal.bounds-out-to-2
bounds-out-to-2 c = simp length-set (omega arith)

pub returns : goal.returns
unfolding big_endian
returns c =
    rw div-one (splices_2 c.args.out.now c.args.to (c.args.mark / 256 % 256 ∷ []) (c.args.mark % 256 ∷ []) 1 refl (omega arith)
    (splice_one _ _ _ (omega arith)) (splice_one _ _ _ (simp length-set (omega arith))))
