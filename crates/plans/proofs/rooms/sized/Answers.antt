-- `plans::rooms::sized` meets its contract: nothing for no positions, else what the walk answers. Assumes nothing.
use Rattle.plans.proofs.Laws.Rooms.{none_delivered}
use Rattle.plans.proofs.rooms.sized.Goals as goal

pub returns-then-end-from : goal.returns-then-end-from
returns-then-end-from g c = none_delivered _ _ _ _ _ _ c.if-end-from.true
