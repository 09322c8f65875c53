-- `resolve::sweep::clear` meets its contract. The invariant: `rest` is left of the word. It is the measure, too. Assumes nothing.
use Rattle.resolve.proofs.Laws.Sweep.{Clearing}
use Rattle.resolve.proofs.sweep.clear.Given as goal

abbrev pub invariant-loop-rest : goal.invariant-loop-rest
invariant-loop-rest l = Clearing l.ends l.q l.words l.sum l.a l.rest

abbrev pub decreases-loop-rest : goal.decreases-loop-rest
decreases-loop-rest l = l.rest
