-- `keys::put_tkv` meets its contract: its four parts, one behind the other. Assumes nothing.
use Prim.Native.Nat.{ℕ, ◌+◌}
use native.Mathlib.Omega.{arith}
use mathlib.Core.Path.{◌≡◌, refl, ap, ◌∙◌}
use mathlib.Core.List.{[], ◌∷◌}
use lib.ListN.{length, length-set}
use Rattle.codec.specs.Fixed.{big_endian}
use Rattle.codec.specs.Little.{little_endian}
use Rattle.codec.specs.Splice.{splice}
use Rattle.codec.proofs.Laws.Little.{length-little_endian}
use Rattle.codec.proofs.Laws.Splice.{splice_one, splices_4, length-splice}
use Rattle.keys.specs.Keys.{tkv_key}
use Rattle.keys.proofs.Laws.Tkv.{length-tkv_key}
use Rattle.keys.proofs.put_tkv.Goals as goal
use Rattle.keys.proofs.put_tkv.Goals.{After-slice_known-3-1}

pub write_le64-requires : goal.write_le64-requires
write_le64-requires c = simp length-set (omega arith)

pub bounds-line-9 : goal.bounds-line-9
bounds-line-9 c = omega (arith, simp length-set at c.write_le64.auto.out)

pub write_be32-requires : goal.write_be32-requires
write_be32-requires c = simp length-set (omega (arith, simp length-set at c.write_le64.auto.out))

-- what the line then holds
made : (c : After-slice_known-3-1) → let a = c.args in c.write_be32.new.out ≡ splice a.line.now 0 (tkv_key a.inode a.index)
unfolding tkv_key
made c =
    let a = c.args in
    splices_4 a.line.now 0 (65 ∷ []) (little_endian 8 a.inode) (67 ∷ []) (big_endian 4 a.index) 1 9 10 refl (ap (λ (n : ℕ). 1 + n) (length-little_endian 8 a.inode)) refl (omega arith)
    (splice_one _ _ _ (omega arith)) c.write_le64.ensures (splice_one _ _ _ (omega (arith, simp length-set at c.write_le64.auto.out))) c.write_be32.ensures

pub shape_of-line : goal.shape_of-line
shape_of-line c =
    let a = c.args in
    ap length (made c) ∙ length-splice a.line.now 0 (tkv_key a.inode a.index) (omega (arith, length-tkv_key a.inode a.index))

pub returns : goal.returns
returns c = made c
