-- `judging::places::meet` meets its contract. The invariant: the positions before `at` lie where the piece says, and the segment holds `at`.
-- Assumes nothing.
use native.Mathlib.Omega.{arith}
use Rattle.resolve.proofs.Laws.Resolved.{resolved_at}
use Rattle.plans.proofs.Laws.Shifts.{shifts_some}
use Rattle.judging.proofs.Laws.Places.{strays_here, lies_on, following_holds}
use Rattle.resolve.proofs.Laws.Ready.{ready_of}
use Rattle.judging.proofs.places.meet.Goals as goal

pub seek-segment-requires : goal.seek-segment-requires
seek-segment-requires c = (c.requires.q_lt_end.2, omega (arith, c.requires.q_lt_end.0, c.requires.q_lt_end.1))

pub loop-at-init : goal.loop-at-init
loop-at-init c = (λ j l. absurd (omega arith), c.seek-segment.ensures, omega arith, c.requires.q_lt_end.0)

pub offset_bounds-r-segment : goal.offset_bounds-r-segment
offset_bounds-r-segment c = omega (arith, c.loop-at.invariant.1.inside, (ready_of c.args.r.now.ready).in_tops)

pub bounds-r-segment : goal.bounds-r-segment
bounds-r-segment c = omega (arith, c.loop-at.invariant.1.inside, (ready_of c.args.r.now.ready).in_tops)

pub overflow_sub-at : goal.overflow_sub-at
overflow_sub-at c = c.loop-at.invariant.2

pub same_at-requires : goal.same_at-requires
same_at-requires c =
    record { all = (ready_of c.args.r.now.ready).pass; block_nonzero = shifts_some _ _ c.args.block.shifts; on_top = resolved_at _ _ _ _ _ (ready_of c.args.r.now.ready).resolved _ _ c.loop-at.invariant.1 }

pub same_block_to-at-requires : goal.same_block_to-at-requires
same_block_to-at-requires c =
    let i = c.loop-at.invariant in
    record { p_lt_end = i.3; holds = i.1 }

pub returns-then-end-at : goal.returns-then-end-at
returns-then-end-at c =
    let i = c.loop-at.invariant in
    (λ j l. lies_on _ _ _ _ _ i.2 _ c.same_at.ensures c.if-same_at.true _ _ c.same_block_to-at.ensures.unbroken.0 i.0 j (omega (arith, c.if-end-at.true)), i.1.inside)

pub following-segment-requires : goal.following-segment-requires
following-segment-requires c = omega (arith, c.loop-at.invariant.1.inside, (ready_of c.args.r.now.ready).in_marks)

pub loop-at-smaller : goal.loop-at-smaller
loop-at-smaller c =
    omega (arith, c.same_block_to-at.ensures.unbroken.0.some, c.same_block_to-at.ensures.unbroken.0.inside, c.if-end-at.false)

pub loop-at-preserved : goal.loop-at-preserved
loop-at-preserved c =
    let i = c.loop-at.invariant in
    let f = c.following-segment.ensures in (
      lies_on _ _ _ _ _ i.2 _ c.same_at.ensures c.if-same_at.true _ _ c.same_block_to-at.ensures.unbroken.0 i.0,
      following_holds _ _ _ _ _ (ready_of c.args.r.now.ready).resolved _ _ _ _ i.1 c.same_block_to-at.ensures.unbroken.0.some c.same_block_to-at.ensures.unbroken.1 (omega (arith, c.if-end-at.false, c.requires.q_lt_end.1)) f.0 f.1,
      omega (arith, i.2, c.same_block_to-at.ensures.unbroken.0.some),
      omega (arith, c.if-end-at.false),
    )

pub returns-else-same_at : goal.returns-else-same_at
returns-else-same_at c =
    let i = c.loop-at.invariant in
    strays_here _ _ _ _ _ i.2 _ c.same_at.ensures c.if-same_at.false _ i.3
