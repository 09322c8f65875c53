-- What compaction answers, as a struct of numbers, and leaves in its two buffers. Assumes nothing.
use Rattle.std.specs.Prelude.{ℕ, List, length, Result, Ok, Err}
use Rattle.outcomes.specs.Outcome.{Outcome, refused, done}
use Rattle.outcomes.specs.Answers.{left_in}
use Rattle.compaction.specs.Calls.{Both}
use Rattle.outcomes.specs.Outcome.{Refusal}
use Rattle.compaction.specs.declared.Compacted.{Compacted}
use Rattle.ezumokarin.specs.declared.Compact.{Compact}

-- a refusal, and two counts
abbrev pub no_counts : Refusal → Compact
no_counts r = record { refusal = r.number; place = r.place; plan = 0; list = 0 }

abbrev pub two_counts : ℕ → ℕ → Compact
two_counts plan list = record { refusal = 0; place = 0; plan = plan; list = list }

-- both answers that were written
unfoldable pub wrote_both : Outcome Both → Compact
wrote_both (refused r) = no_counts r
wrote_both (done w) = two_counts (length w.plan) (length w.list)

-- the two buffers afterwards
abbrev pub plan_buffer : Outcome Both → List ℕ → List ℕ
plan_buffer o out = left_in (λ (b : Both). b.plan) o out

abbrev pub list_buffer : Outcome Both → List ℕ → List ℕ
list_buffer o out = left_in (λ (b : Both). b.list) o out

-- ---- the same of the call's own answer

unfoldable pub plain_compacted : Result Compacted Refusal → Compact
plain_compacted (Ok c) = two_counts c.plan c.list
plain_compacted (Err r) = no_counts r
