-- `plans::shifts::BlockSize::is_none` meets its contract. Assumes nothing.
use Rattle.plans.proofs.Laws.Shifts.{none_test}
use Rattle.plans.proofs.shifts.BlockSize.is_none.Goals as goal

pub returns : goal.returns
returns c = none_test _ _ c.args.self.shifts _ _ c.number_of.ensures
