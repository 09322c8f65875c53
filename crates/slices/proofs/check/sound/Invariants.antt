-- `slices::check::sound` meets its contract. The invariant: the records before i are sound. Assumes nothing.
use Rattle.slices.specs.Inner.{Sound}
use Rattle.slices.proofs.check.sound.Given as goal

abbrev pub invariant-loop-i : goal.invariant-loop-i
invariant-loop-i l = Sound l.list l.i
