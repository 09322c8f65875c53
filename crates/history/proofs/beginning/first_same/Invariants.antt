-- `history::beginning::first_same` meets its contract. The invariant: the records so far are the same. Assumes nothing.
use Prim.Native.Nat.{◌*◌, ◌≤◌}
use mathlib.Core.Bool.{true}
use Rattle.slices.specs.Limits.{record_size}
use Rattle.history.specs.Inner.{UpTo}
use Rattle.history.proofs.beginning.first_same.Given as goal

abbrev pub invariant-loop-k : goal.invariant-loop-k
invariant-loop-k l = UpTo l.older l.newer 0 (l.k * record_size) true × (l.k ≤ l.m)
