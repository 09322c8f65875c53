-- `coverage::chain::chain` meets its contract. The invariant: the first k keys in order fill the places up to q. Assumes nothing.
use Rattle.coverage.proofs.Laws.Chained.{Walked}
use Rattle.coverage.proofs.chain.chain.Given as goal

abbrev pub invariant-loop-number : goal.invariant-loop-number
invariant-loop-number l = Walked l.keys l.order l.cur l.number-index l.q
