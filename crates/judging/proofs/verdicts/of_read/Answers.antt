-- `judging::verdicts::of_read` meets its contract: each answer is that of its case. Assumes nothing.
use native.Mathlib.Omega.{arith}
use mathlib.Core.Path.{refl, ◌∙◌}
use Rattle.joined.specs.Lists.{parts}
use Rattle.joined.proofs.Laws.Lists.{parts-length}
use Rattle.judging.proofs.Laws.Looked.{piece_named, place_said, led_said, found_looked}
use Rattle.judging.proofs.verdicts.of_read.Goals as goal

pub overflow_mul-lead : goal.overflow_mul-lead
overflow_mul-lead c = omega (arith, (c.in_room-lead.ensures.0 refl).within, c.well_formed)

pub returns-then-lead-plan : goal.returns-then-lead-plan
returns-then-lead-plan c = c.of_place.ensures ∙ led_said _ _ _ _ _ _ _ _ (c.in_room-lead.ensures.0 refl) c.if-lead-plan.true

pub overflow_mul-found : goal.overflow_mul-found
overflow_mul-found c =
    omega (arith, (c.in_room-found.ensures.1 refl).0.within, (c.in_room-found.ensures.1 refl).0.sifted.within, c.well_formed)

pub returns-then-found-plan : goal.returns-then-found-plan
returns-then-found-plan c =
    let a = c.args in
    piece_named _ _ _ _ (found_looked _ _ _ _ (parts a.lengths.now a.lists.now) _ (rw (← parts-length a.lengths.now a.lists.now) at c.requires.lengths_len_bound.1) _ (c.in_room-found.ensures.1 refl).0) c.if-found-plan.true

pub returns : goal.returns
returns c =
    let a = c.args in
    c.of_place-2.ensures ∙ place_said _ _ _ _ (found_looked _ _ _ _ (parts a.lengths.now a.lists.now) _ (rw (← parts-length a.lengths.now a.lists.now) at c.requires.lengths_len_bound.1) _ (c.in_room-found.ensures.1 refl).0) c.if-found-plan.false _ ((c.in_room-found.ensures.1 refl).1 c.if-found-plan.false)
