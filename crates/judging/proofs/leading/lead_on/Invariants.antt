-- `judging::leading::lead_on` meets its contract. The invariant: the pieces before `number` stand in order up to `place`. Assumes nothing.
use Prim.Native.Nat.{◌<◌}
use Rattle.slices.specs.Record.{records}
use Rattle.judging.specs.Inner.{Leads}
use Rattle.judging.proofs.leading.lead_on.Given as goal

abbrev pub invariant-loop-number : goal.invariant-loop-number
invariant-loop-number l = Leads l.first l.from l.n l.block.bytes l.k (records l.r.list.now) l.plan l.initial.number l.number l.place × (l.near < l.r.segments)
