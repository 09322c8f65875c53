-- `plans::bytes::put_nothing` meets its contract: the four numbers, put one after the other. Assumes nothing.
use Prim.Native.Nat.{ℕ, ◌+◌}
use native.Mathlib.Omega.{arith}
use mathlib.Core.Path.{ap}
use Rattle.codec.proofs.Laws.Fixed.{length-big_endian}
use Rattle.codec.proofs.Laws.Splice.{splices_4}
use Rattle.plans.specs.Inner.{object_bytes}
use Rattle.plans.proofs.bytes.put_nothing.Goals as goal

pub returns : goal.returns
unfolding object_bytes
returns c =
    splices_4 c.args.out.now c.args.to _ _ _ _ 8 12 16
    (length-big_endian 8 _) (ap (λ (k : ℕ). 8 + k) (length-big_endian 4 _)) (ap (λ (k : ℕ). 12 + k) (length-big_endian 4 _)) (omega arith)
    c.write_be64.ensures c.write_be32.ensures c.write_be32-2.ensures c.write_be32-3.ensures
