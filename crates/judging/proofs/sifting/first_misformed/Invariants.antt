-- `judging::sifting::first_misformed` meets its contract. The invariant: the pieces before i are formed. Assumes nothing.
use Rattle.judging.specs.Inner.{Formed}
use Rattle.judging.proofs.sifting.first_misformed.Given as goal

abbrev pub invariant-loop-i : goal.invariant-loop-i
invariant-loop-i l = Formed l.first l.from l.n l.plan l.i
