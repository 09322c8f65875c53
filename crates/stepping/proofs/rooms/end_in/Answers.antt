-- `stepping::rooms::end_in` meets its contract: the segment that holds p leads to the end of its piece. Assumes nothing.
use native.Mathlib.Omega.{arith}
use Rattle.slices.specs.Limits.{chunk}
use Rattle.resolve.proofs.Laws.Resolved.{resolved_at, resolved_few}
use Rattle.resolve.proofs.Laws.Ready.{ready_of}
use Rattle.stepping.proofs.rooms.end_in.Goals as goal

pub resolve-segments-requires : goal.resolve-segments-requires
resolve-segments-requires c = record { all = c.requires.resolvable.0.pass; few = c.requires.resolvable.1 }

pub offset_bounds-r-k : goal.offset_bounds-r-k
unfolding chunk
offset_bounds-r-k c = omega (arith, c.find-k.ensures.inside, resolved_few _ _ _ _ _ (ready_of c.resolved-r.result.ready).resolved)

pub returns : goal.returns
returns c =
    record { on_top = rw c.resolved-r.ensures at (resolved_at _ _ _ _ _ (ready_of c.resolved-r.result.ready).resolved _ _ c.find-k.ensures); leads = rw c.resolved-r.ensures at c.run_to.ensures }
