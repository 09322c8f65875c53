-- `compaction::planned` meets its contract. Assumes nothing.
use Rattle.slices.specs.Record.{count}
use Rattle.compaction.proofs.planned.Goals as goal

pub sized-requires-clause-list_bound : goal.sized-requires-clause-list_bound
unfolding count
sized-requires-clause-list_bound c = (c.if-n-le32.true, c.requires.list_bound.1, c.requires.list_bound.2)
