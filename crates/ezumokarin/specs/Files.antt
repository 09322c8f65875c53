-- What a plan across a file answers, as a struct of numbers, with the chunk index of the refused list. Assumes nothing.
use Rattle.std.specs.Prelude.{ℕ, List, length, Result, Ok, Err}
use Rattle.outcomes.specs.Outcome.{OutcomeOf, refused, done}
use Rattle.joined.specs.Refusals.{ListRefusal}
use Rattle.ezumokarin.specs.declared.Filed.{Filed}

abbrev pub filed : ℕ → Filed
filed n = record { refusal = 0; place = 0; index = 0; count = n }

-- a refusal, by its number, its place and its index
abbrev pub not_filed : ListRefusal → Filed
not_filed r = record { refusal = r.number; place = r.place; index = r.index; count = 0 }

-- bytes that were written
unfoldable pub wrote_file : OutcomeOf ListRefusal (List ℕ) → Filed
wrote_file (refused r) = not_filed r
wrote_file (done bs) = filed (length bs)

-- ---- the same of the call's own answer

unfoldable pub plain_file : Result ℕ ListRefusal → Filed
plain_file (Ok n) = filed n
plain_file (Err r) = not_filed r
