-- `stepping::chunks::begins` meets its contract. The invariant: i lists are gone by, and their bytes end at `at`. Assumes nothing.
use Prim.Native.Nat.{◌≤◌}
use Rattle.joined.proofs.Laws.Lists.{Gone}
use Rattle.stepping.proofs.chunks.begins.Given as goal

abbrev pub invariant-loop-i : goal.invariant-loop-i
invariant-loop-i l = Gone l.lengths l.lists l.at l.i × (l.i ≤ l.k)
