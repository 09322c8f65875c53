-- `views::maximal::reach` meets its contract. Assumes nothing.
use Prim.Native.Nat.{◌+◌}
use native.Mathlib.Omega.{arith}
use mathlib.Core.Path.{refl}
use Rattle.resolve.specs.Resolved.{Holds}
use Rattle.resolve.proofs.Laws.Resolved.{resolved_at}
use Rattle.views.specs.View.{next}
use Rattle.views.specs.Inner.{shift}
use Rattle.views.proofs.Laws.Next.{shift_zero, next_is}
use Rattle.views.proofs.Laws.Segments.{segment_unbroken, segment_next}
use Rattle.runs.proofs.Laws.Walk.{unbroken_on, leads_parts, leads_end}
use Rattle.resolve.proofs.Laws.Ready.{ready_of}
use Rattle.views.proofs.maximal.reach.Goals as goal
use Rattle.views.proofs.maximal.reach.Goals.{In-loop-e}

-- the next segment holds the position where this one ends
on : (c : In-loop-e) → Holds c.args.r.now.marks.now c.args.r.now.segments (c.loop-e.segment + 1) c.loop-e.e
on c =
    let i = c.loop-e.invariant in
    segment_next _ _ _ _ (ready_of c.args.r.now.ready).resolved _ _ _ i.1 c.requires.p_lt_end.1 i.2 c.loop-e-test.true

pub id_on-id-requires : goal.id_on-id-requires
id_on-id-requires c = λ i e. (((ready_of c.args.r.now.ready).resolved.on_top _ c.requires.holds.inside).covering i e).0

pub loop-e-init : goal.loop-e-init
loop-e-init c =
    (segment_unbroken _ _ _ _ (ready_of c.args.r.now.ready).resolved _ _ _ _ c.requires.p_lt_end.0 c.requires.holds c.until-e.ensures, c.requires.holds.inside, c.until-e.ensures)

pub bounds-r-segment : goal.bounds-r-segment
bounds-r-segment c = omega (arith, (on (goal.at.bounds-r-segment c).In-loop-e).inside, (ready_of c.args.r.now.ready).in_tops)

pub joins-requires : goal.joins-requires
joins-requires c =
    let r = (ready_of c.args.r.now.ready).resolved in
    record { all = (ready_of c.args.r.now.ready).pass; p_lt_e = (c.loop-e.invariant.0.some, c.id_on-id.ensures); on_top = resolved_at _ _ _ _ _ r _ _ c.requires.holds; on_top_2 = resolved_at _ _ _ _ _ r _ _ (on (goal.at.joins-requires c).In-loop-e) }

pub until-e-requires-then-joins : goal.until-e-requires-then-joins
until-e-requires-then-joins c =
    omega (arith, (on (goal.at.until-e-requires-then-joins c).In-loop-e).inside, (ready_of c.args.r.now.ready).in_marks)

pub loop-e-smaller : goal.loop-e-smaller
loop-e-smaller c =
    let u = segment_unbroken _ _ _ _ (ready_of c.args.r.now.ready).resolved _ _ _ _ c.loop-e-test.true (on (goal.at.loop-e-smaller c).In-loop-e) c.until-e-then-joins.ensures in
    omega (arith, u.some, u.inside)

pub loop-e-preserved : goal.loop-e-preserved
loop-e-preserved c =
    let i = c.loop-e.invariant in
    let u = segment_unbroken _ _ _ _ (ready_of c.args.r.now.ready).resolved _ _ _ _ c.loop-e-test.true (on (goal.at.loop-e-preserved c).In-loop-e) c.until-e-then-joins.ensures in
    (unbroken_on next shift shift_zero next_is _ _ _ _ i.0 _ _ _ refl refl c.joins.ensures c.if-joins.true _ u, (on (goal.at.loop-e-preserved c).In-loop-e).inside, c.until-e-then-joins.ensures)

pub returns-else-joins : goal.returns-else-joins
returns-else-joins c =
    record { leads = leads_parts next shift shift_zero next_is _ _ _ _ c.loop-e.invariant.0 _ _ _ refl refl c.joins.ensures c.if-joins.false; holds_2 = (λ h. on (goal.at.returns-else-joins c).In-loop-e) }

pub returns : goal.returns
returns c =
    record { leads = leads_end next shift shift_zero next_is _ _ _ _ c.loop-e.invariant.0 _ refl c.loop-e-test.false; holds_2 = (λ h. absurd (omega (arith, h, c.loop-e-test.false))) }
