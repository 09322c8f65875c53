-- `codec::scan::digit_at` meets its contract, case by case. Assumes nothing.
use lib.Seq.{drop-cons}
use lib.ListN.{drop_of_length-le}
use mathlib.Core.Path.{sym, ap, ◌∙◌}
use Prim.Native.Nat.{ℕ, ◌-◌}
use Rattle.codec.specs.Decimal.{digit_of}
use Rattle.codec.specs.Scan.{digit_at}
use Rattle.codec.proofs.scan.digit_at.Goals as goal

pub returns-then-text-i : goal.returns-then-text-i
unfolding digit_at
returns-then-text-i c = let a = c.args in rw (drop_of_length-le a.text.now c.if-text-i.true)

pub returns-then-not-is_ascii_digit : goal.returns-then-not-is_ascii_digit
unfolding digit_at digit_of
returns-then-not-is_ascii_digit c =
    let a = c.args in
    rw (drop-cons a.text.now a.i 0 c.if-text-i.false, sym c.is_ascii_digit.ensures.value ∙ c.if-not-is_ascii_digit.true)

pub returns : goal.returns
unfolding digit_at digit_of
returns c =
    let a = c.args in
    rw (drop-cons a.text.now a.i 0 c.if-text-i.false, sym c.is_ascii_digit.ensures.value ∙ c.if-not-is_ascii_digit.false) (ap (λ (x : ℕ). x - 48) c.from.ensures)
