-- `listing::lines::put_line` meets its contract: the five fields, one behind the other. Assumes nothing.
use native.Mathlib.Omega.{arith}
use mathlib.Core.List.{◌++◌, append_assoc}
use Rattle.listing.specs.Listing.{field, line, space, newline}
use Rattle.listing.specs.Calls.{line_room}
use Rattle.codec.specs.Inner.{Puts}
use Rattle.codec.proofs.Laws.Splice.{puts_then, puts_as}
use Rattle.listing.proofs.lines.put_line.Goals as goal

pub returns : goal.returns
unfolding line
returns c =
    let a = c.args in
    let r = a.r in
    let pos = field r.pos space in
    let id = field r.id space in
    let size = field r.size space in
    let off = field r.off space in
    let len = field r.len newline in
    let p₁ : Puts a.out.now a.at pos 21 _ _ = record { leaves = c.put_field-a.ensures.2; ends = c.put_field-a.ensures.0; fits = omega arith } in
    let p₂ : Puts _ _ id 21 _ _ = record { leaves = c.put_field-b.ensures.2; ends = c.put_field-b.ensures.0; fits = omega arith } in
    let p₃ : Puts _ _ size 21 _ _ = record { leaves = c.put_field-c.ensures.2; ends = c.put_field-c.ensures.0; fits = omega arith } in
    let p₄ : Puts _ _ off 21 _ _ = record { leaves = c.put_field-d.ensures.2; ends = c.put_field-d.ensures.0; fits = omega arith } in
    let p₅ : Puts _ _ len 21 _ _ = record { leaves = c.put_field.ensures.2; ends = c.put_field.ensures.0; fits = omega arith } in
    let q₂ = puts_then p₁ p₂ (omega arith) in
    let q₃ = puts_then q₂ p₃ (omega arith) in
    let q₄ = puts_then q₃ p₄ (omega arith) in
    let q₅ = puts_then q₄ p₅ (omega arith) in
    let q : Puts _ _ (pos ++ (id ++ (size ++ (off ++ len)))) line_room _ _ = puts_as _ q₅ (simp append_assoc) (omega arith) in
    (q.ends, omega arith, q.leaves)
