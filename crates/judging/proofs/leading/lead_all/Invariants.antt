-- `judging::leading::lead_all` meets its contract. The invariant: the lists before k are gone by, and the room is for as many records. Assumes nothing.
use mathlib.Core.Path.{◌≡◌}
use lib.ListN.{length}
use Rattle.joined.specs.Lists.{total}
use Rattle.judging.proofs.Laws.Lists.{LedOver}
use Rattle.judging.proofs.leading.lead_all.Given as goal

abbrev pub invariant-loop-k : goal.invariant-loop-k
invariant-loop-k l = (adds : total l.lengths ≡ length l.lists) × LedOver l.lengths l.lists adds l.first l.from l.n l.block.bytes l.plan l.at l.k l.led.number l.led.place
    × (l.room.records ≡ l.initial.room.records)
