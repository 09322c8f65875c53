-- `judging::sifting::sift_on` meets its contract. The invariant: the pieces of chunk k before i lie where they say. Assumes nothing.
use Prim.Native.Nat.{◌<◌}
use Rattle.slices.specs.Record.{records}
use Rattle.judging.proofs.Laws.Sifting.{LieBefore}
use Rattle.judging.proofs.sifting.sift_on.Given as goal

abbrev pub invariant-loop-i : goal.invariant-loop-i
invariant-loop-i l = LieBefore l.from l.block.bytes l.k (records l.r.list.now) l.plan l.i × (l.near < l.r.segments)
