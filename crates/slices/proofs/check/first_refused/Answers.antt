-- `slices::check::first_refused` meets its contract. Assumes nothing.
use native.Mathlib.Omega.{arith}
use mathlib.Core.Path.{sym, ap, ◌∙◌}
use Rattle.slices.specs.Record.{count}
use Rattle.slices.specs.Inner.{fault}
use Rattle.outcomes.proofs.Laws.Kinds.{some_not_0}
use Rattle.slices.proofs.Laws.Refusals.{refused_here, refused_later}
use Rattle.slices.proofs.Laws.Sizes.{agreed_accepted, no_other}
use Rattle.slices.proofs.check.first_refused.Goals as goal

pub loop-i-init : goal.loop-i-init
unfolding count
loop-i-init c = (c.requires.from_bound, c.requires.passed, c.requires.risen)

pub returns-then-is_some : goal.returns-then-is_some
unfolding count
returns-then-is_some c =
    let e = c.check_record.ensures ∙ ap fault c.read_record-r.ensures in
    refused_here _ _ c.loop-i-test.true c.loop-i.invariant.1 (λ z. some_not_0 _ (sym c.is_some.ensures ∙ c.if-is_some.true) (e ∙ z))

pub returns-then-last-lt-FELL : goal.returns-then-last-lt-FELL
unfolding count
returns-then-last-lt-FELL c =
    let l = c.loop-i.invariant in
    refused_later _ (λ j h. l.1 j (omega arith)) _ (no_other _ (agreed_accepted _ _ c.loop-i-test.false (l.2 c.if-last-lt-FELL.true).agreed))

pub returns : goal.returns
unfolding count
returns c = refused_later _ (λ j h. c.loop-i.invariant.1 j (omega arith)) _ c.two_sizes_at.ensures
