-- `files::walk::walk_lists` meets its contract. The invariant: the lists before k are planned, and the room is for as many records.
-- Assumes nothing.
use mathlib.Core.Path.{◌≡◌}
use Rattle.files.specs.Inner.{Fits}
use Rattle.files.proofs.Laws.Walk.{Walked}
use Rattle.files.proofs.walk.walk_lists.Given as goal

abbrev pub invariant-loop-k : goal.invariant-loop-k
invariant-loop-k l = Walked l.first l.block.bytes l.from l.end (Fits l.initial.room.records) l.lengths l.lists l.write l.initial.out l.out l.at l.to l.k
    × (l.room.records ≡ l.initial.room.records)
