-- `history::beginning::begins` meets its contract. The invariant: what was compared is the same, so the rest decides. Assumes nothing.
use Prim.Native.Nat.{◌-◌, ◌≤◌}
use mathlib.Core.Bool.{true}
use Rattle.history.specs.Inner.{UpTo}
use Rattle.history.proofs.beginning.begins.Given as goal

abbrev pub invariant-loop-i : goal.invariant-loop-i
invariant-loop-i l = UpTo l.older l.newer 0 l.i true × (l.i ≤ l.n)

abbrev pub decreases-loop-i : goal.decreases-loop-i
decreases-loop-i l = l.n - l.i
