-- A plan divides the places of the read into maximal runs, and is the only such division. Assumes nothing.
use Prim.Native.Nat.{ℕ}
use native.Mathlib.Nat.{zero-add}
use mathlib.Core.Path.{◌≡◌}
use mathlib.Core.List.{List}
use Rattle.runs.specs.Runs.{Run, Valid}
use Rattle.runs.proofs.Laws.Runs.{runs_valid, valid_unique}
use Rattle.plans.specs.Location.{next_location}
use Rattle.plans.specs.Plan.{location_from, pieces}
use Rattle.slices.specs.declared.Record.{Record}
use Rattle.plans.specs.declared.Location.{Location}

module _ (B : ℕ) (rs : List Record) (start n : ℕ) where
  pub pieces_divide : Valid next_location (location_from B rs start) 0 n (pieces B rs start n)
  unfolding pieces
  pieces_divide = runs_valid next_location (location_from B rs start) 0 n n (zero-add n)

  pub pieces_only : (xs : List (Run Location)) → Valid next_location (location_from B rs start) 0 n xs → xs ≡ pieces B rs start n
  unfolding pieces
  pieces_only xs v = valid_unique next_location (location_from B rs start) 0 n n (zero-add n) xs v
