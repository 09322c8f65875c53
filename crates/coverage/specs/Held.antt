-- How often the pieces of a plan hold a place of the read, in whatever order they stand (paper 02, L10). No limit on their number. Assumes nothing.
use Rattle.std.specs.Prelude.{ℕ, suc, ◌+◌, Bool, ◌&&◌, cond, not, List, [], ◌∷◌, eqb, leb, ltb}
use Rattle.runs.specs.Runs.{Run}
use Rattle.plans.specs.Location.{Site}
use Rattle.coverage.specs.Least.{least}

-- a piece holds place i
unfoldable pub holds : Run Site → ℕ → Bool
holds r i = leb r.start i && ltb i (r.start + r.len)

-- how many of the pieces hold it
unfoldable pub holders : List (Run Site) → ℕ → ℕ
holders [] i = 0
holders (r ∷ rs) i = cond (holds r i) (suc (holders rs i)) (holders rs i)

-- "missing or doubled": not held once
unfoldable pub not_once : List (Run Site) → ℕ → Bool
not_once rs i = not (eqb (holders rs i) 1)

-- the first such place of a read of n bytes; n where there is none
unfoldable pub first_not_once : List (Run Site) → ℕ → ℕ
first_not_once rs n = least (not_once rs) n
