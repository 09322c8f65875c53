-- `plans::shifts::BlockSize::length_of` meets its contract. Assumes nothing.
use native.Mathlib.Omega.{arith}
use Rattle.plans.proofs.Laws.Shifts.{shift_below, shift_short, shift_full}
use Rattle.plans.proofs.shifts.BlockSize.length_of.Goals as goal

pub overflow_mul-left : goal.overflow_mul-left
overflow_mul-left c = omega (arith, shift_below _ _ c.args.self.shifts _ _ c.number_of.ensures)

pub overflow_sub-left : goal.overflow_sub-left
overflow_sub-left c = omega (arith, shift_below _ _ c.args.self.shifts _ _ c.number_of.ensures, c.requires.off_lt_size)

pub returns-then-left-self : goal.returns-then-left-self
returns-then-left-self c = shift_short _ _ c.args.self.shifts _ _ c.number_of.ensures _ c.if-left-self.true

pub returns-else-left-self : goal.returns-else-left-self
returns-else-left-self c = shift_full _ _ c.args.self.shifts _ _ c.number_of.ensures _ c.if-left-self.false
