-- Answers as structs of numbers: refusal 0 on success; a field without meaning is 0. Assumes nothing.
use Rattle.std.specs.Prelude.{ℕ, List, length, Result, Ok, Err}
use Rattle.outcomes.specs.Outcome.{Outcome, refused, done}
use Rattle.outcomes.specs.Outcome.{Refusal}
use Rattle.ezumokarin.specs.declared.Plain.{Plain}

-- success, with its count
abbrev pub success : ℕ → Plain
success n = record { refusal = 0; place = 0; count = n }

-- a refusal, by its number and its place
abbrev pub failure : Refusal → Plain
failure r = record { refusal = r.number; place = r.place; count = 0 }

-- a count
unfoldable pub counted : Outcome ℕ → Plain
counted (refused r) = failure r
counted (done n) = success n

-- bytes that were written
unfoldable pub wrote : Outcome (List ℕ) → Plain
wrote (refused r) = failure r
wrote (done bs) = success (length bs)

-- ---- the same of the calls' own answers

unfoldable pub plain_answer : Result ℕ Refusal → Plain
plain_answer (Ok n) = success n
plain_answer (Err r) = failure r
