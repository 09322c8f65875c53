-- `resolve::sweep::settle` meets its contract. The invariant: what it is to have done. The measure: the word of the sums. Assumes nothing.
use Rattle.resolve.specs.Set.{Summed}
use Rattle.resolve.specs.Sweep.{Settled}
use Rattle.resolve.proofs.sweep.settle.Given as goal

abbrev pub invariant-loop-sum : goal.invariant-loop-sum
invariant-loop-sum l = Summed l.words l.sum × Settled l.ends l.q l.initial.words l.words

abbrev pub decreases-loop-sum : goal.decreases-loop-sum
decreases-loop-sum l = l.sum
