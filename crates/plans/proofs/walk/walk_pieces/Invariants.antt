-- `plans::walk::walk_pieces` meets its contract. The invariant: the pieces before p are written, or counted. Assumes nothing.
use Prim.Native.Nat.{◌-◌, ◌<◌, ◌≤◌}
use Rattle.slices.specs.Record.{records}
use Rattle.resolve.specs.Resolved.{Holds}
use Rattle.runs.proofs.Laws.Loops.{Filled}
use Rattle.plans.specs.Piece.{piece_size, encode_run}
use Rattle.plans.specs.Inner.{pieces_left}
use Rattle.plans.proofs.Laws.Pieces.{length-encode_run}
use Rattle.plans.proofs.walk.walk_pieces.Given as goal

abbrev pub invariant-loop-p : goal.invariant-loop-p
invariant-loop-p l = Filled (pieces_left l.block.bytes (records l.r.list.now) l.front l.from l.end) l.from l.end l.start encode_run piece_size length-encode_run l.write l.initial.out l.out l.p l.to × (l.p < l.end → Holds l.r.marks.now l.r.segments l.k l.p) × (l.from ≤ l.p)

abbrev pub decreases-loop-p : goal.decreases-loop-p
decreases-loop-p l = l.end - l.p
