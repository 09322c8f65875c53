-- `slices::sizes::first_with` meets its contract. The invariant: no record before j has the id. Assumes nothing.
use Prim.Native.Nat.{ℕ, ◌<◌, ◌≤◌}
use mathlib.Core.Logic.{◌≢◌}
use Rattle.slices.specs.Record.{record_at}
use Rattle.slices.proofs.sizes.first_with.Given as goal

abbrev pub invariant-loop-j : goal.invariant-loop-j
invariant-loop-j l = (l.j ≤ l.i) × ((k : ℕ) → k < l.j → (record_at l.list k).id ≢ l.id)
