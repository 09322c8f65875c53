-- `plans::shifts::BlockSize::in_block` meets its contract. Assumes nothing.
use native.Mathlib.Omega.{arith}
use Rattle.plans.proofs.Laws.Shifts.{rest_less}
use Rattle.plans.proofs.shifts.BlockSize.in_block.Goals as goal

pub overflow_sub-left : goal.overflow_sub-left
overflow_sub-left c = omega (arith, c.place_of.ensures, rest_less _ _ c.args.self.shifts c.args.off)

pub returns-then-left-d : goal.returns-then-left-d
returns-then-left-d c =
    let l = rest_less _ _ c.args.self.shifts c.args.off in
    (omega (arith, c.place_of.ensures, l), omega (arith, c.place_of.ensures), omega (arith, c.place_of.ensures), (λ h. rw c.place_of.ensures))

pub returns-else-left-d : goal.returns-else-left-d
returns-else-left-d c =
    (c.requires.d_nonzero, omega arith, omega (arith, c.place_of.ensures, c.if-left-d.false), (λ h. absurd (omega (arith, h))))
