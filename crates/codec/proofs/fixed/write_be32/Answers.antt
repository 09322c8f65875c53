-- `codec::fixed::write_be32` meets its contract: four bytes that are stored one after the other. Assumes nothing.
use Prim.Native.Nat.{◌/◌, ◌%◌}
use native.Mathlib.Omega.{arith}
use native.Mathlib.Nat.{div-one}
use mathlib.Core.Path.{refl}
use mathlib.Core.List.{[], ◌∷◌}
use lib.ListN.{length-set}
use Rattle.codec.specs.Fixed.{big_endian}
use Rattle.codec.proofs.Laws.Splice.{splice_one, splices_4}
use Rattle.codec.proofs.fixed.write_be32.Goals as goal

pub bounds-out-at-2 : goal.bounds-out-at-2
bounds-out-at-2 c = simp length-set (omega arith)

pub bounds-out-at-3 : goal.bounds-out-at-3
bounds-out-at-3 c = simp length-set (omega arith)

pub bounds-out-at-4 : goal.bounds-out-at-4
bounds-out-at-4 c = simp length-set (omega arith)

pub returns : goal.returns
unfolding big_endian
returns c =
    rw (div-one) (splices_4 c.args.out.now c.args.at (c.args.x / 16777216 % 256 ∷ []) (c.args.x / 65536 % 256 ∷ []) (c.args.x / 256 % 256 ∷ []) (c.args.x % 256 ∷ []) 1 2 3 refl refl refl (omega arith)
    (splice_one _ _ _ (omega arith)) (splice_one _ _ _ (simp length-set (omega arith))) (splice_one _ _ _ (simp length-set (omega arith))) (splice_one _ _ _ (simp length-set (omega arith))))
