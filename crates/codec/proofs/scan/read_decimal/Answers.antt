-- `codec::scan::read_decimal` meets its contract. The invariant: what is left to read gives what the whole gives. Assumes nothing.
use borrow.Author.Tests.{le-leb, lt-leb}
use Rattle.codec.proofs.Laws.Scan.{more_end}
use Rattle.codec.proofs.Laws.Steps.{decimal_none, decimal_some, more_none, more_some, digit_inside, opened, extended}
use mathlib.Core.Path.{sym, ◌∙◌}
use Prim.Native.Nat.{◌+◌, ◌*◌, ◌≤◌, ◌<◌}
use native.Mathlib.Omega.{arith}
use native.Mathlib.Numerals.{add-one}
use lib.ListN.{length, drop}
use Rattle.codec.specs.Scan.{digit_at}
use Rattle.codec.proofs.scan.read_decimal.Goals as goal
use Rattle.codec.proofs.scan.read_decimal.Goals.{Else-not-extends, In-loop-d}

-- the digit at the loop's place, and what adding it gives
here : (c : In-loop-d) → digit_at (drop c.loop-d.i c.args.text.now) < 10
here c = rw (← c.loop-d.invariant.1) c.loop-d-test.true

inside : (c : In-loop-d) → c.loop-d.i < length c.args.text.now
inside c = digit_inside c.loop-d.i c.args.text.now (here c)

within : (c : Else-not-extends) → c.loop-d.value * 10 + c.loop-d.d ≤ c.args.most
within c = extended _ _ _ (sym c.extends.ensures ∙ c.if-not-extends.false)

pub returns-then-not-opens : goal.returns-then-not-opens
returns-then-not-opens c =
    let a = c.args in
    sym (decimal_none a.least a.most a.at a.text.now (rw (← c.digit_at-value.ensures) (sym c.opens.ensures ∙ c.if-not-opens.true)))

pub overflow_add-i : goal.overflow_add-i
overflow_add-i c =
    let a = c.args in
    let d = opened a.least a.most c.digit_at-value.result (sym c.opens.ensures ∙ c.if-not-opens.false) in
    omega (arith, digit_inside a.at a.text.now (rw (← c.digit_at-value.ensures) d.0))

pub loop-d-init : goal.loop-d-init
loop-d-init c =
    let a = c.args in
    let t : _ = sym c.opens.ensures ∙ c.if-not-opens.false in
    let d = opened a.least a.most c.digit_at-value.result t in (
      d.1,
      c.digit_at-d.ensures,
      decimal_some a.least a.most a.at a.text.now (rw (← c.digit_at-value.ensures) t)
          ∙ rw (add-one, ← c.digit_at-value.ensures),
    )

pub returns-then-not-extends : goal.returns-then-not-extends
returns-then-not-extends c =
    let a = c.args in
    sym (c.loop-d.invariant.2 ∙ more_none a.least a.most c.loop-d.value c.loop-d.i a.text.now (here (goal.at.returns-then-not-extends c).In-loop-d)
    (rw (← c.loop-d.invariant.1) (sym c.extends.ensures ∙ c.if-not-extends.true)))

pub overflow_mul-value : goal.overflow_mul-value
overflow_mul-value c = omega (arith, within c)

pub overflow_add-value : goal.overflow_add-value
overflow_add-value c = omega (arith, within c)

pub overflow_add-i-in-loop-d : goal.overflow_add-i-in-loop-d
overflow_add-i-in-loop-d c = omega (arith, inside (goal.at.overflow_add-i-in-loop-d c).In-loop-d)

pub loop-d-smaller : goal.loop-d-smaller
loop-d-smaller c = omega (arith, inside (goal.at.loop-d-smaller c).In-loop-d)

pub loop-d-preserved : goal.loop-d-preserved
loop-d-preserved c =
    let a = c.args in (
      within (goal.at.loop-d-preserved c).Else-not-extends,
      c.digit_at-d-in-loop-d.ensures,
      c.loop-d.invariant.2 ∙ more_some a.least a.most c.loop-d.value c.loop-d.i a.text.now (here (goal.at.loop-d-preserved c).In-loop-d)
          (rw (← c.loop-d.invariant.1) (sym c.extends.ensures ∙ c.if-not-extends.false))
          ∙ rw (add-one, ← c.loop-d.invariant.1),
    )

pub returns-then-value-least : goal.returns-then-value-least
returns-then-value-least c =
    let a = c.args in
    sym (c.loop-d.invariant.2 ∙ more_end a.least a.most c.loop-d.value c.loop-d.i (drop c.loop-d.i a.text.now) (rw (← c.loop-d.invariant.1) c.loop-d-test.false) ∙ rw (lt-leb a.least c.loop-d.value c.if-value-least.true))

pub returns : goal.returns
returns c =
    let a = c.args in
    sym (c.loop-d.invariant.2 ∙ more_end a.least a.most c.loop-d.value c.loop-d.i (drop c.loop-d.i a.text.now) (rw (← c.loop-d.invariant.1) c.loop-d-test.false) ∙ rw (le-leb a.least c.loop-d.value c.if-value-least.false))
