-- What is new in a list, as a struct of numbers: where the part stands in the newer list. On a refusal the others are 0. Assumes nothing.
use Rattle.std.specs.Prelude.{ℕ, ◌-◌, Bool, true, false, Result, Ok, Err}
use Rattle.outcomes.specs.Outcome.{Outcome, refused, done}
use Rattle.outcomes.specs.Outcome.{Refusal}
use Rattle.ezumokarin.specs.declared.Part.{Part}

-- no part, with a refusal's number and place
abbrev pub no_part : Refusal → Part
no_part r = record { refusal = r.number; place = r.place; rewritten = 0; offset = 0; length = 0 }

abbrev pub a_part : ℕ → ℕ → ℕ → Part
a_part rewritten offset length = record { refusal = 0; place = 0; rewritten = rewritten; offset = offset; length = length }

-- the part, of an older list of m bytes and a newer one of n: what is behind the older list, or all where the list was rewritten
unfoldable pub part_in : Outcome Bool → ℕ → ℕ → Part
part_in (refused r) m n = no_part r
part_in (done false) m n = a_part 0 m (n - m)
part_in (done true) m n = a_part 1 0 n

-- ---- the same of the call's own answer

unfoldable pub plain_part : Result Bool Refusal → ℕ → ℕ → Part
plain_part (Ok false) offset length = a_part 0 offset length
plain_part (Ok true) offset length = a_part 1 offset length
plain_part (Err r) offset length = no_part r
