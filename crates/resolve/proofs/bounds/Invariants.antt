-- `resolve::bounds` meets its contract. The invariant: those of the first i records are noted. Assumes nothing.
use Rattle.resolve.specs.Sweep.{Bounds}
use Rattle.resolve.proofs.bounds.Given as goal

abbrev pub invariant-loop-i : goal.invariant-loop-i
invariant-loop-i l = Bounds l.list l.pos l.ends l.i
