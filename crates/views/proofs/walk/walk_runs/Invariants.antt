-- `views::walk::walk_runs` meets its contract. The invariant: the runs before p are written, or counted.
-- Assumes nothing.
use Prim.Native.Nat.{◌-◌, ◌<◌}
use Rattle.slices.specs.Limits.{record_size}
use Rattle.slices.specs.Record.{encode, records}
use Rattle.resolve.specs.Resolved.{Holds}
use Rattle.views.specs.Inner.{view_from}
use Rattle.slices.proofs.Laws.Record.{length-encode}
use Rattle.runs.proofs.Laws.Loops.{Filled}
use Rattle.views.proofs.walk.walk_runs.Given as goal

abbrev pub invariant-loop-p : goal.invariant-loop-p
invariant-loop-p l = Filled (λ q. view_from l.all (records l.r.list.now) q l.end) 0 l.end 0 encode record_size length-encode l.write l.initial.out l.out l.p l.at × (l.p < l.end → Holds l.r.marks.now l.r.segments l.k l.p)

abbrev pub decreases-loop-p : goal.decreases-loop-p
decreases-loop-p l = l.end - l.p
