-- `joined::check_lists` meets its contract. The invariant: the lists so far are accepted, so the rest decides. Assumes nothing.
use Rattle.joined.proofs.Laws.Check.{Ahead}
use Rattle.joined.proofs.check_lists.Given as goal

abbrev pub invariant-loop-k : goal.invariant-loop-k
invariant-loop-k l = Ahead l.first l.lengths l.lists l.at l.k
