-- `codec::fixed::write_be64` meets its contract: its upper and its lower four bytes. Assumes nothing.
use Prim.Native.Nat.{◌/◌, ◌%◌}
use native.Mathlib.Omega.{arith}
use mathlib.Core.Path.{sym, ap, ◌∙◌}
use Rattle.codec.specs.Fixed.{big_endian}
use Rattle.codec.specs.Splice.{splice}
use Rattle.codec.proofs.Laws.Fixed.{length-big_endian, big_endian_halves}
use Rattle.codec.proofs.Laws.Splice.{splices_2}
use Rattle.codec.proofs.fixed.write_be64.Goals as goal

pub returns : goal.returns
returns c =
    let a = c.args in
    splices_2 a.out.now a.at (big_endian 4 (a.x / 4294967296)) (big_endian 4 (a.x % 4294967296)) 4 (length-big_endian 4 _) (omega arith) c.write_be32.ensures c.write_be32-2.ensures
    ∙ ap (splice a.out.now a.at) (sym (big_endian_halves a.x))
