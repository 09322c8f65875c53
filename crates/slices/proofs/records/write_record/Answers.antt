-- `slices::records::write_record` meets its contract: the five numbers, put one after the other, are the record. Assumes nothing.
use Prim.Native.Nat.{ℕ, ◌+◌}
use native.Mathlib.Omega.{arith}
use mathlib.Core.Path.{ap}
use Rattle.slices.specs.Record.{encode}
use Rattle.codec.proofs.Laws.Fixed.{length-big_endian}
use Rattle.codec.proofs.Laws.Splice.{splices_5}
use Rattle.slices.proofs.records.write_record.Goals as goal

pub returns : goal.returns
unfolding encode
returns c =
    splices_5 c.args.out.now c.args.at _ _ _ _ _ 4 12 16 20
    (length-big_endian 4 _) (ap (λ (k : ℕ). 4 + k) (length-big_endian 8 _)) (ap (λ (k : ℕ). 12 + k) (length-big_endian 4 _)) (ap (λ (k : ℕ). 16 + k) (length-big_endian 4 _)) (omega arith)
    c.write_be32.ensures c.write_be64.ensures c.write_be32-2.ensures c.write_be32-3.ensures c.write_be32-4.ensures
