-- The ids that stand in a list. Assumes nothing.
use Rattle.std.specs.Prelude.{ℕ, Bool, false, ◌||◌, List, [], ◌∷◌, eqb}
use Rattle.slices.specs.declared.Record.{Record}

-- the id stands in a record of the list, also in an empty one
unfoldable pub stands : ℕ → List Record → Bool
stands id [] = false
stands id (r ∷ rs) = eqb r.id id || stands id rs
