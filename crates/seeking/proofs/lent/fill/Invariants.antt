-- `seeking::lent::fill` meets its contract. The invariant: the first i records are put. Assumes nothing.
use Prim.Native.Nat.{◌≤◌}
use mathlib.Core.Path.{◌≡◌}
use Rattle.seeking.specs.Inner.{filled}
use Rattle.seeking.proofs.lent.fill.Given as goal

abbrev pub invariant-loop-i : goal.invariant-loop-i
invariant-loop-i l = (l.i ≤ l.n) × (l.row ≡ filled l.bytes l.initial.row l.i)
