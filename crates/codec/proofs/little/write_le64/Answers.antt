-- `codec::little::write_le64` meets its contract: its lower and its upper four bytes. Assumes nothing.
use Prim.Native.Nat.{ℕ, ◌/◌, ◌%◌}
use native.Mathlib.Omega.{arith}
use mathlib.Core.Path.{◌≡◌, sym, ap, ◌∙◌}
use mathlib.Core.List.{List, ◌++◌}
use Rattle.codec.specs.Little.{little_endian}
use Rattle.codec.specs.Splice.{splice}
use Rattle.codec.proofs.Laws.Little.{length-little_endian, little_endian-mod, little_endian_split}
use Rattle.codec.proofs.Laws.Splice.{splices_2}
use Rattle.codec.proofs.little.write_le64.Goals as goal

pub returns : goal.returns
returns c =
    let a = c.args in
    let e : little_endian 4 (a.x % 4294967296) ≡ little_endian 4 a.x = little_endian-mod 4 a.x in
    splices_2 a.out.now a.at (little_endian 4 (a.x % 4294967296)) (little_endian 4 (a.x / 4294967296)) 4 (length-little_endian 4 _) (omega arith) c.write_le32.ensures c.write_le32-2.ensures
    ∙ ap (splice a.out.now a.at) (ap (λ (l : List ℕ). l ++ little_endian 4 (a.x / 4294967296)) e ∙ sym (little_endian_split 4 4 a.x))
