-- `slices::check::first_refused` meets its contract. The invariant: the records before i pass, and while the ids rise, they agree. Assumes nothing.
use Prim.Native.Nat.{◌≤◌, ◌<◌}
use Rattle.slices.specs.Inner.{fell, Risen, Passed}
use Rattle.slices.proofs.check.first_refused.Given as goal

abbrev pub invariant-loop-i : goal.invariant-loop-i
invariant-loop-i l = (l.i ≤ l.n) × Passed l.list l.i × (l.last < fell → Risen l.list l.i l.last)
