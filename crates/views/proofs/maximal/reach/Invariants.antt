-- `views::maximal::reach` meets its contract. The invariant: from p up to e the cover goes on, and e is the end of a segment, or `end`.
-- Assumes nothing.
use Prim.Native.Nat.{◌+◌, ◌-◌, ◌<◌}
use lib.ListN.{get_or}
use Rattle.slices.specs.Cover.{cover}
use Rattle.slices.specs.Record.{records}
use Rattle.resolve.specs.Sweep.{Lesser}
use Rattle.views.specs.View.{next}
use Rattle.runs.specs.Inner.{Unbroken}
use Rattle.views.proofs.maximal.reach.Given as goal

abbrev pub invariant-loop-e : goal.invariant-loop-e
invariant-loop-e l = Unbroken next (cover (records l.r.list.now)) l.p l.end l.e × (l.segment < l.r.segments) × Lesser (get_or l.r.marks.now (l.segment + 1) 0) l.end l.e

abbrev pub decreases-loop-e : goal.decreases-loop-e
decreases-loop-e l = l.end - l.e
