-- `coverage::keys::collect` meets its contract. The invariant: the keys are those of the first i pieces that begin in the window. Assumes nothing.
use Prim.Native.Nat.{◌≤◌, ◌<◌}
use mathlib.Core.Path.{◌≡◌}
use lib.ListN.{length}
use Rattle.coverage.specs.Inner.{Collected}
use Rattle.coverage.proofs.keys.collect.Given as goal

abbrev pub invariant-loop-i : goal.invariant-loop-i
invariant-loop-i l = (l.low < l.high) × (l.high ≤ l.n) × (l.count ≤ length l.keys) × (length l.keys ≡ length l.initial.keys) × Collected l.plan l.low l.high l.i l.keys l.count
