-- `stepping::rooms::end_resolved` meets its contract: each room is for the lists that it is asked for. Assumes nothing.
use Rattle.slices.specs.Record.{count}
use Rattle.stepping.proofs.rooms.end_resolved.Goals as goal

pub sized-requires-clause-accepts : goal.sized-requires-clause-accepts
unfolding count
sized-requires-clause-accepts c = (c.requires.accepts, c.if-list-le256.true)
