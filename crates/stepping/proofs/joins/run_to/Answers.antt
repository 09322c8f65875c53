-- `stepping::joins::run_to` meets its contract. The invariant: from p up to e the locations go on, and e is the end of the segment, or of a block in it.
-- Assumes nothing.
use Prim.Native.Nat.{◌+◌}
use native.Mathlib.Omega.{arith}
use mathlib.Core.Path.{refl}
use Rattle.resolve.specs.Resolved.{Holds}
use Rattle.resolve.proofs.Laws.Resolved.{resolved_at, resolved_next}
use Rattle.runs.proofs.Laws.Walk.{unbroken_on, leads_stops, leads_parts, leads_end}
use Rattle.plans.specs.Location.{next_location, onward}
use Rattle.plans.proofs.Laws.Locations.{onward-zero, next_location_is}
use Rattle.plans.proofs.Laws.Shifts.{shifts_some}
use Rattle.resolve.proofs.Laws.Ready.{ready_of}
use Rattle.stepping.proofs.joins.run_to.Goals as goal
use Rattle.stepping.proofs.joins.run_to.Goals.{Else-e-r}

-- where no block ends, the next segment holds the position
on : (c : Else-e-r) → let a = c.args in Holds a.r.now.marks.now a.r.now.segments (c.loop-e.segment + 1) c.loop-e.e
on c =
    let i = c.loop-e.invariant in
    resolved_next _ _ _ _ _ (ready_of c.args.r.now.ready).resolved _ _ i.1 (omega (arith, i.3, c.if-e-r.false)) (omega (arith, c.loop-e-test.true, c.requires.p_lt_end.1))

pub offset_bounds-r-k : goal.offset_bounds-r-k
offset_bounds-r-k c = omega (arith, c.requires.holds.inside, (ready_of c.args.r.now.ready).in_tops)

pub bounds-r-k : goal.bounds-r-k
bounds-r-k c = omega (arith, c.requires.holds.inside, (ready_of c.args.r.now.ready).in_tops)

pub id_on-id-requires : goal.id_on-id-requires
id_on-id-requires c = λ i e. (((ready_of c.args.r.now.ready).resolved.on_top _ c.requires.holds.inside).covering i e).0

pub same_block_to-e-requires : goal.same_block_to-e-requires
same_block_to-e-requires c =
    record { p_lt_end = c.requires.p_lt_end.0; holds = c.requires.holds }

pub loop-e-init : goal.loop-e-init
loop-e-init c =
    (c.same_block_to-e.ensures.unbroken.0, c.requires.holds.inside, omega (arith, c.same_block_to-e.ensures.unbroken.0.some, c.requires.holds.from), c.same_block_to-e.ensures.unbroken.1, c.same_block_to-e.ensures.stops)

pub overflow_add-segment : goal.overflow_add-segment
overflow_add-segment c = omega (arith, c.loop-e.invariant.1, (ready_of c.args.r.now.ready).in_marks)

pub offset_bounds-r-segment : goal.offset_bounds-r-segment
offset_bounds-r-segment c = omega (arith, c.loop-e.invariant.1, (ready_of c.args.r.now.ready).in_marks)

pub bounds-r-segment : goal.bounds-r-segment
bounds-r-segment c = omega (arith, c.loop-e.invariant.1, (ready_of c.args.r.now.ready).in_marks)

pub returns-then-e-r : goal.returns-then-e-r
returns-then-e-r c =
    let i = c.loop-e.invariant in
    leads_stops next_location onward onward-zero next_location_is _ _ _ _ i.0 (i.4 c.if-e-r.true)

pub overflow_add-segment-in-loop-e : goal.overflow_add-segment-in-loop-e
overflow_add-segment-in-loop-e c = omega (arith, (on c).inside, (ready_of c.args.r.now.ready).in_marks)

pub offset_bounds-r-segment-in-loop-e : goal.offset_bounds-r-segment-in-loop-e
offset_bounds-r-segment-in-loop-e c = omega (arith, (on (goal.at.offset_bounds-r-segment-in-loop-e c).Else-e-r).inside, (ready_of c.args.r.now.ready).in_tops)

pub bounds-r-segment-in-loop-e : goal.bounds-r-segment-in-loop-e
bounds-r-segment-in-loop-e c = omega (arith, (on (goal.at.bounds-r-segment-in-loop-e c).Else-e-r).inside, (ready_of c.args.r.now.ready).in_tops)

pub goes_on-requires : goal.goes_on-requires
goes_on-requires c =
    let r = (ready_of c.args.r.now.ready).resolved in
    record { all = (ready_of c.args.r.now.ready).pass; p_lt_e = (c.loop-e.invariant.0.some, shifts_some _ _ c.args.block.shifts, c.id_on-id.ensures); on_top = resolved_at _ _ _ _ _ r _ _ c.requires.holds; on_top_2 = resolved_at _ _ _ _ _ r _ _ (on (goal.at.goes_on-requires c).Else-e-r) }

pub same_block_to-e-requires-then-goes_on : goal.same_block_to-e-requires-then-goes_on
same_block_to-e-requires-then-goes_on c =
    record { p_lt_end = c.loop-e-test.true; holds = on (goal.at.same_block_to-e-requires-then-goes_on c).Else-e-r }

pub loop-e-smaller : goal.loop-e-smaller
loop-e-smaller c =
    omega (arith, c.same_block_to-e-then-goes_on.ensures.unbroken.0.some, c.same_block_to-e-then-goes_on.ensures.unbroken.0.inside)

pub loop-e-preserved : goal.loop-e-preserved
loop-e-preserved c =
    let h = on (goal.at.loop-e-preserved c).Else-e-r in
    let i = c.loop-e.invariant in
    (unbroken_on next_location onward onward-zero next_location_is _ _ _ _ i.0 _ _ _ refl refl c.goes_on.ensures c.if-goes_on.true _ c.same_block_to-e-then-goes_on.ensures.unbroken.0, h.inside, omega (arith, c.same_block_to-e-then-goes_on.ensures.unbroken.0.some, h.from), c.same_block_to-e-then-goes_on.ensures.unbroken.1, c.same_block_to-e-then-goes_on.ensures.stops)

pub returns-else-goes_on : goal.returns-else-goes_on
returns-else-goes_on c =
    let i = c.loop-e.invariant in
    leads_parts next_location onward onward-zero next_location_is _ _ _ _ i.0 _ _ _ refl refl c.goes_on.ensures c.if-goes_on.false

pub returns : goal.returns
returns c =
    leads_end next_location onward onward-zero next_location_is _ _ _ _ c.loop-e.invariant.0 _ refl c.loop-e-test.false
