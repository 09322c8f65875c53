-- `judging::places::meet` meets its contract. The invariant: the positions before `at` lie where the piece says, and the segment holds `at`.
-- Assumes nothing.
use Prim.Native.Nat.{◌-◌, ◌≤◌, ◌<◌}
use Rattle.slices.specs.Record.{records}
use Rattle.resolve.specs.Resolved.{Holds}
use Rattle.plans.specs.Piece.{location_of}
use Rattle.judging.specs.Inner.{LiesAt}
use Rattle.judging.proofs.places.meet.Given as goal

abbrev pub invariant-loop-at : goal.invariant-loop-at
invariant-loop-at l = LiesAt l.block.bytes (records l.r.list.now) l.q (l.at - l.q) (location_of l.p) × Holds l.r.marks.now l.r.segments l.segment l.at × (l.q ≤ l.at) × (l.at < l.end)

abbrev pub decreases-loop-at : goal.decreases-loop-at
decreases-loop-at l = l.end - l.at
