-- `listing::lines::put_refused` meets its contract: words and numbers, one behind the other. Assumes nothing.
use native.Mathlib.Omega.{arith}
use native.Mathlib.Nat.{zero-add}
use mathlib.Core.Path.{◌∙◌}
use mathlib.Core.List.{◌++◌, append_assoc}
use lib.ListN.{length}
use Rattle.codec.specs.Decimal.{decimal}
use Rattle.listing.specs.Listing.{field, refused_line, refused_word, at_word, newline}
use Rattle.listing.specs.Calls.{line_room}
use Rattle.codec.specs.Inner.{Puts}
use Rattle.codec.proofs.Laws.Splice.{puts_then, puts_as}
use Rattle.listing.proofs.lines.put_refused.Goals as goal

pub returns : goal.returns
unfolding refused_line
returns c =
    let a = c.args in
    let number = decimal a.r.number in
    let place = field a.r.place newline in
    let d = rw c.number.ensures at c.put_decimal-b.ensures in
    let f = rw c.place.ensures at c.put_field.ensures in
    let p₁ : Puts a.out.now 0 refused_word (length refused_word) _ _ = record { leaves = c.put-a.ensures.1; ends = c.put-a.ensures.0; fits = omega arith } in
    let p₂ : Puts _ _ number 20 _ _ = record { leaves = d.2; ends = d.0; fits = omega arith } in
    let p₃ : Puts _ _ at_word (length at_word) _ _ = record { leaves = c.put-c.ensures.1; ends = c.put-c.ensures.0; fits = omega arith } in
    let p₄ : Puts _ _ place 21 _ _ = record { leaves = f.2; ends = f.0; fits = omega arith } in
    let q₂ = puts_then p₁ p₂ (omega arith) in
    let q₃ = puts_then q₂ p₃ (omega arith) in
    let q₄ = puts_then q₃ p₄ (omega arith) in
    let q : Puts _ _ (refused_word ++ (number ++ (at_word ++ place))) line_room _ _ = puts_as _ q₄ (simp append_assoc) (omega arith) in
    (q.ends ∙ zero-add _, q.leaves)
