-- `judging::rooms::work` meets its contract. Assumes nothing.
use Rattle.std.proofs.Common.{rules}
use native.Mathlib.Omega.{arith}
use mathlib.Core.Path.{sym, ◌∙◌}
use mathlib.Core.Bool.{true≢false}
use Rattle.slices.specs.Limits.{chunk}
use Rattle.joined.specs.Lists.{parts}
use Rattle.joined.proofs.Laws.Lists.{parts-length}
use Rattle.judging.proofs.Laws.Looked.{all_inside, found_looked}
use Rattle.judging.proofs.rooms.work.Goals as goal

pub lead_all-requires : goal.lead_all-requires
unfolding chunk
lead_all-requires c =
    record { lengths_value = c.requires.lengths_value; lengths_len_bound = (c.requires.lengths_len_bound.0, omega (arith, c.requires.lengths_len_bound.0, c.requires.lengths_len_bound.1)) }

pub returns-then-lead : goal.returns-then-lead
returns-then-lead c = (λ h. c.lead_all.ensures, λ h. absurd (true≢false (sym c.if-lead.true ∙ h)))

pub first_misformed-limit-requires : goal.first_misformed-limit-requires
unfolding chunk
first_misformed-limit-requires c = omega (arith, c.requires.lengths_len_bound.0, c.requires.lengths_len_bound.1)

pub sift_all-number-requires : goal.sift_all-number-requires
unfolding chunk
sift_all-number-requires c =
    record { lengths_value = c.requires.lengths_value; lengths_len_bound = (c.requires.lengths_len_bound.0, omega (arith, c.requires.lengths_len_bound.0, c.requires.lengths_len_bound.1)); limit_in_bounds = c.first_misformed-limit.ensures.upper_bound }

pub overflow_mul-number : goal.overflow_mul-number
overflow_mul-number c =
    omega (arith, c.sift_all-number.ensures.within, c.first_misformed-limit.ensures.upper_bound.0, c.well_formed)

pub returns-then-number-plan : goal.returns-then-number-plan
returns-then-number-plan c =
    (λ h. absurd (true≢false (sym h ∙ c.if-lead.false)), λ h. ((record { limit = _; within = c.first_misformed-limit.ensures.upper_bound.0; form = c.first_misformed-limit.ensures.upper_bound.1; next = c.first_misformed-limit.ensures.result_value; sifted = c.sift_all-number.ensures }), λ l. absurd (omega (arith, c.if-number-plan.true))))

pub first_not_once-requires : goal.first_not_once-requires
unfolding chunk
first_not_once-requires c =
    let a = c.args in
    record { all = all_inside _ _ _ _ (found_looked _ _ _ _ (parts a.lengths.now a.lists.now) _ (rw (← parts-length a.lengths.now a.lists.now) at c.requires.lengths_len_bound.1) _ (record { limit = _; within = c.first_misformed-limit.ensures.upper_bound.0; form = c.first_misformed-limit.ensures.upper_bound.1; next = c.first_misformed-limit.ensures.result_value; sifted = c.sift_all-number.ensures })) c.if-number-plan.false; n_bound = omega (arith, c.requires.lengths_len_bound.0, c.requires.lengths_len_bound.1); keys_nonzero = search rules }

pub returns : goal.returns
returns c =
    (λ h. absurd (true≢false (sym h ∙ c.if-lead.false)), λ h. ((record { limit = _; within = c.first_misformed-limit.ensures.upper_bound.0; form = c.first_misformed-limit.ensures.upper_bound.1; next = c.first_misformed-limit.ensures.result_value; sifted = c.sift_all-number.ensures }), λ l. c.first_not_once.ensures))
