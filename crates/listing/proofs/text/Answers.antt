-- `listing::text` meets its contract: each answer is that of its case. Assumes nothing.
use Prim.Native.Nat.{◌≤◌}
use native.Mathlib.Omega.{arith}
use mathlib.Core.Path.{sym, ap, ◌∙◌}
use lib.ListN.{length, length-take}
use Rattle.slices.specs.Limits.{chunk}
use Rattle.outcomes.specs.Outcome.{done}
use Rattle.outcomes.specs.Answers.{Answers, Written}
use Rattle.outcomes.proofs.Laws.Answers.{answers_refusal, answers_done, said_refused, said_wrote}
use Rattle.views.specs.Calls.{view_outcome}
use Rattle.views.proofs.Laws.Calls.{view_fits}
use Rattle.listing.specs.Listing.{file_limit}
use Rattle.listing.proofs.Laws.Calls.{text_12, text_done, listing_longer, listing_refused, listing_view}
use Rattle.listing.proofs.text.Goals as goal
use Rattle.listing.proofs.text.Goals.{After-view, In-Ok}

-- the view was asked for with 65,536 bytes of room
viewed : (c : After-view)
    → Answers (view_outcome c.args.list.now 67108864 file_limit) c.blank-view.result c.view.result c.view.new.out
viewed c = rw c.blank-view.ensures at c.view.ensures

-- what the view wrote
wrote : (c : In-Ok)
    → Written (view_outcome c.args.list.now 67108864 file_limit) c.in-Ok.n c.view.new.out
wrote c =
    let v : Answers (view_outcome c.args.list.now 67108864 file_limit) c.blank-view.result c.view.result c.view.new.out = rw c.blank-view.ensures at c.view.ensures in
    said_wrote _ _ _ _ (rw c.in-Ok.is at v)

room : (c : In-Ok) → length (wrote c).bytes ≤ file_limit
room c = (view_fits _ _ _ _ (wrote c).outcome).1

pub returns-then-out-lt-TEXT : goal.returns-then-out-lt-TEXT
returns-then-out-lt-TEXT c = answers_refusal _ _ _ _ (text_12 _ _ _ c.if-out-lt-TEXT.true) c.from.ensures

pub returns-then-longer : goal.returns-then-longer
returns-then-longer c =
    let a = c.args in
    let e = text_done a.longer a.list.now _ c.if-out-lt-TEXT.false in
    let l = listing_longer a.longer a.list.now c.if-longer.true in
    let w = rw c.from-then-longer.ensures at c.put_refused.ensures in
    answers_done _ _ _ _ _ (e ∙ ap done l) (sym w.0) w.1

pub slice_bounds-view-end-in-Ok : goal.slice_bounds-view-end-in-Ok
slice_bounds-view-end-in-Ok c =
    omega (arith, (wrote (goal.at.slice_bounds-view-end-in-Ok c).In-Ok).first.counted, room (goal.at.slice_bounds-view-end-in-Ok c).In-Ok, c.view.auto.out)

pub slice_bounds-put_view-end : goal.slice_bounds-put_view-end
slice_bounds-put_view-end c =
    simp length-take (omega (arith, (wrote (goal.at.slice_bounds-put_view-end c).In-Ok).first.counted, room (goal.at.slice_bounds-put_view-end c).In-Ok, c.view.auto.out))

pub returns-in-Err : goal.returns-in-Err
unfolding chunk
returns-in-Err c =
    let a = c.args in
    let o = said_refused _ _ _ _ (rw c.in-Err.is at (viewed (goal.at.returns-in-Err c).After-view)) in
    let e = text_done a.longer a.list.now _ c.if-out-lt-TEXT.false in
    let l = listing_refused a.longer a.list.now c.if-longer.false _ o in
    answers_done _ _ _ _ _ (e ∙ ap done l) (sym c.put_refused-in-Err.ensures.0) c.put_refused-in-Err.ensures.1

pub returns-in-Ok : goal.returns-in-Ok
unfolding chunk
returns-in-Ok c =
    let a = c.args in
    let e = text_done a.longer a.list.now _ c.if-out-lt-TEXT.false in
    let l = listing_view a.longer a.list.now c.if-longer.false (wrote (goal.at.returns-in-Ok c).In-Ok).bytes (wrote (goal.at.returns-in-Ok c).In-Ok).outcome in
    let w = rw (wrote (goal.at.returns-in-Ok c).In-Ok).first.front at c.put_view.ensures in
    answers_done _ _ _ _ _ (e ∙ ap done l) (sym w.0) w.1
