-- `coverage::first_not_once` meets its contract. The invariant: the pieces that begin before `low` fill the places up to `cur`. Assumes nothing.
use Prim.Native.Nat.{◌-◌, ◌≤◌}
use mathlib.Core.Path.{◌≡◌}
use lib.ListN.{length}
use Rattle.coverage.proofs.Laws.Swept.{Swept}
use Rattle.coverage.proofs.first_not_once.Given as goal

abbrev pub invariant-loop-low : goal.invariant-loop-low
invariant-loop-low l = (l.low ≤ l.n)
    × (length l.keys ≡ length l.initial.keys)
    × (length l.order ≡ length l.initial.order)
    × (length l.spare ≡ length l.initial.spare)
    × Swept l.plan l.low l.cur

abbrev pub decreases-loop-low : goal.decreases-loop-low
decreases-loop-low l = l.n - l.low
