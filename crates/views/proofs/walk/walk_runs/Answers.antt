-- `views::walk::walk_runs` meets its contract. Assumes nothing.
use Prim.Native.Nat.{◌+◌, zero-le}
use native.Mathlib.Omega.{arith}
use native.Mathlib.Nat.{zero-add}
use mathlib.Core.Path.{refl, ◌∙◌}
use lib.ListN.{get_or}
use Rattle.slices.specs.Record.{encode_all}
use Rattle.resolve.specs.Resolved.{OnTop}
use Rattle.resolve.proofs.Laws.Resolved.{resolved_at, resolved_front}
use Rattle.views.proofs.Laws.Tops.{shown_wanted}
use Rattle.views.proofs.Laws.ViewFrom.{view_from_more, view_from_less, view_from_none}
use Rattle.runs.proofs.Laws.Loops.{filled_start, filled_room, filled_more, filled_less, filled_end, filled_count}
use Rattle.resolve.proofs.Laws.Ready.{ready_of}
use Rattle.views.proofs.walk.walk_runs.Goals as goal
use Rattle.views.proofs.walk.walk_runs.Goals.{In-loop-p}

-- the record on top of a run's first position
on_top : (c : In-loop-p)
    → OnTop c.args.r.now.list.now (get_or c.args.r.now.tops.now c.loop-p.k 0) c.loop-p.p (c.loop-p.p + 1)
on_top c = resolved_at _ _ _ _ _ (ready_of c.args.r.now.ready).resolved _ _ (c.loop-p.invariant.1 c.loop-p-test.true)

pub loop-p-init : goal.loop-p-init
unfolding encode_all
loop-p-init c =
    (filled_start _ _ _ _ _ _ _ _ _ zero-le (λ t. omega (arith, c.requires.end_in_bounds t)), (λ h. resolved_front _ _ _ _ _ (ready_of c.args.r.now.ready).resolved (omega (arith, h, c.requires.end_le_chunk))))

pub bounds-r-k : goal.bounds-r-k
bounds-r-k c = omega (arith, (c.loop-p.invariant.1 c.loop-p-test.true).inside, (ready_of c.args.r.now.ready).in_tops)

pub put_if-requires : goal.put_if-requires
put_if-requires c =
    record { all = (ready_of c.args.r.now.ready).pass; on_top = on_top (goal.at.put_if-requires c).In-loop-p; record_size_in_bounds = filled_room _ _ _ _ _ _ _ _ _ _ _ _ _ c.loop-p.invariant.0 c.reach-run.ensures.leads.some c.reach-run.ensures.leads.inside _ (view_from_more _ _ _ _ _ _ _ _ c.reach-run.ensures.leads (c.shown.ensures ∙ shown_wanted _ _ _ _ (on_top (goal.at.put_if-requires c).In-loop-p)) c.if-shown.true refl) }

pub loop-p-preserved-then-shown : goal.loop-p-preserved-then-shown
loop-p-preserved-then-shown c =
    let v = view_from_more _ _ _ _ _ _ _ _ c.reach-run.ensures.leads (c.shown.ensures ∙ shown_wanted _ _ _ _ (on_top (goal.at.loop-p-preserved-then-shown c).In-loop-p)) c.if-shown.true refl in
    (filled_more _ _ _ _ _ _ _ _ _ _ _ _ _ c.loop-p.invariant.0 c.reach-run.ensures.leads.some c.reach-run.ensures.leads.inside _ v _ c.put_if.ensures, c.reach-run.ensures.holds_2)

pub loop-p-preserved : goal.loop-p-preserved
loop-p-preserved c =
    (filled_less _ _ _ _ _ _ _ _ _ _ _ _ _ c.loop-p.invariant.0 c.reach-run.ensures.leads.some c.reach-run.ensures.leads.inside (view_from_less _ _ _ _ _ _ _ c.reach-run.ensures.leads (c.shown.ensures ∙ shown_wanted _ _ _ _ (on_top (goal.at.loop-p-preserved c).In-loop-p)) c.if-shown.false), c.reach-run.ensures.holds_2)

pub returns : goal.returns
unfolding encode_all
returns c =
    let w = c.loop-p.invariant.0 in
    let none = view_from_none _ _ _ _ c.loop-p-test.false in
    record { value = filled_count _ _ _ _ _ _ _ _ _ _ _ _ w none ∙ zero-add _; out_after = filled_end _ _ _ _ _ _ _ _ _ _ _ _ w none }
