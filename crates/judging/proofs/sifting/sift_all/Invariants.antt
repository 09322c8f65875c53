-- `judging::sifting::sift_all` meets its contract. The invariant: the lists before k are gone by, and the room is for as many records. Assumes nothing.
use mathlib.Core.Path.{◌≡◌}
use lib.ListN.{length}
use Rattle.joined.specs.Lists.{total}
use Rattle.judging.proofs.Laws.Lists.{SiftedOver}
use Rattle.judging.proofs.sifting.sift_all.Given as goal

abbrev pub invariant-loop-k : goal.invariant-loop-k
invariant-loop-k l = (adds : total l.lengths ≡ length l.lists) × SiftedOver l.lengths l.lists adds l.first l.from l.n l.block.bytes l.plan l.limit l.at l.k l.left
    × (l.room.records ≡ l.initial.room.records)
