-- `views::walk::answer` meets its contract: each answer is that of its case. Assumes nothing.
use Rattle.views.proofs.Laws.Rooms.{roomy_fits, roomy_answers, counted_long, counted_short, counted_done}
use Rattle.resolve.proofs.Laws.Ready.{ready_of}
use Rattle.views.proofs.walk.answer.Goals as goal

pub walk_runs-requires : goal.walk_runs-requires
walk_runs-requires c =
    record { end_le_chunk = c.requires; end_in_bounds = (λ t. roomy_fits _ _ _ _ _ _ _ (ready_of c.args.r.now.ready).resolved c.requires (c.roomy.ensures c.if-roomy.true)) }

pub returns-then-roomy : goal.returns-then-roomy
returns-then-roomy c =
    roomy_answers _ _ _ _ _ _ _ (ready_of c.args.r.now.ready).resolved c.requires (c.roomy.ensures c.if-roomy.true) _ _ _ c.walk_runs.ensures.value c.walk_runs.ensures.out_after

pub returns-then-too_long : goal.returns-then-too_long
returns-then-too_long c =
    counted_long _ _ _ _ _ c.walk_runs-need.ensures.out_after _ c.walk_runs-need.ensures.value _ c.too_long.ensures c.if-too_long.true _ c.from.ensures

pub returns-then-out-need : goal.returns-then-out-need
returns-then-out-need c =
    counted_short _ _ _ _ _ c.walk_runs-need.ensures.out_after _ c.walk_runs-need.ensures.value _ c.too_long.ensures c.if-too_long.false c.if-out-need.true _ c.from-then-out-need.ensures

pub returns : goal.returns
returns c =
    counted_done _ _ _ _ _ c.walk_runs-need.ensures.out_after _ c.walk_runs-need.ensures.value _ c.too_long.ensures c.if-too_long.false c.if-out-need.false _ _ c.walk_runs-2.ensures.value c.walk_runs-2.ensures.out_after
