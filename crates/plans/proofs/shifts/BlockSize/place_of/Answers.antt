-- `plans::shifts::BlockSize::place_of` meets its contract. Assumes nothing.
use native.Mathlib.Omega.{arith}
use Rattle.plans.proofs.Laws.Shifts.{shift_below, shift_rest}
use Rattle.plans.proofs.shifts.BlockSize.place_of.Goals as goal

pub overflow_mul-result : goal.overflow_mul-result
overflow_mul-result c = omega (arith, shift_below _ _ c.args.self.shifts _ _ c.number_of.ensures)

pub overflow_sub-result : goal.overflow_sub-result
overflow_sub-result c = shift_below _ _ c.args.self.shifts _ _ c.number_of.ensures

pub returns : goal.returns
returns c = shift_rest _ _ c.args.self.shifts _ _ c.number_of.ensures
