-- `resolve::sweep::begin` meets its contract. The invariant: what it is to have done, up to k. Assumes nothing.
use Rattle.resolve.specs.Set.{Summed}
use Rattle.resolve.specs.Sweep.{Begun}
use Rattle.resolve.proofs.sweep.begin.Given as goal

abbrev pub invariant-loop-k : goal.invariant-loop-k
invariant-loop-k l = Summed l.words l.sum × Begun l.pos l.order l.n l.q l.initial.words l.words l.from l.k
