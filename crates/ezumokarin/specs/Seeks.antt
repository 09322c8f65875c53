-- What a search for a position answers, as a struct of numbers. On a refusal, and where no segment holds the position, the others are 0.
-- Assumes nothing.
use Rattle.std.specs.Prelude.{ℕ, Option, Some, None, Result, Ok, Err}
use Rattle.outcomes.specs.Outcome.{Refusal}
use Rattle.outcomes.specs.Outcome.{Outcome, refused, done}
use Rattle.slices.specs.declared.Record.{Record}
use Rattle.seeking.specs.declared.Found.{Found as FoundOf}
use Rattle.ezumokarin.specs.declared.Found.{Found}

-- no segment, with a refusal's number and place or with zeros
abbrev pub no_segment : ℕ → ℕ → Found
no_segment refusal place = record { refusal = refusal; place = place; found = 0; segment = 0; pos = 0; id = 0; size = 0; off = 0; len = 0 }

-- a segment, with its number in the view
abbrev pub a_segment : ℕ → Record → Found
a_segment number r =
    record { refusal = 0; place = 0; found = 1; segment = number; pos = r.pos; id = r.id; size = r.size; off = r.off; len = r.len }

-- what was found
unfoldable pub plain_found : Option FoundOf → Found
plain_found None = no_segment 0 0
plain_found (Some f) = a_segment f.number f.segment

-- a search in bytes
unfoldable pub found_in : Outcome (Option FoundOf) → Found
unfolding plain_found
found_in (refused r) = no_segment r.number r.place
found_in (done f) = plain_found f

-- ---- the same of the call's own answer

unfoldable pub plain_sought : Result (Option FoundOf) Refusal → Found
unfolding plain_found
plain_sought (Ok f) = plain_found f
plain_sought (Err r) = no_segment r.number r.place
