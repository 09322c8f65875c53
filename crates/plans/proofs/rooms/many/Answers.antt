-- `plans::rooms::many` meets its contract. Assumes nothing.
use Rattle.slices.specs.Record.{count}
use Rattle.plans.proofs.rooms.many.Goals as goal

pub sized-requires-clause-list_bound : goal.sized-requires-clause-list_bound
unfolding count
sized-requires-clause-list_bound c = (c.if-n-le256.true, c.requires.list_bound.1, c.requires.list_bound.2)
