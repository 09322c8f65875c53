-- `codec::put::put` meets its contract. The invariant: the first k bytes are put. Assumes nothing.
use mathlib.Core.Path.{◌≡◌}
use lib.ListN.{take}
use Rattle.codec.specs.Splice.{splice}
use Rattle.codec.proofs.put.put.Given as goal

abbrev pub invariant-loop-k : goal.invariant-loop-k
invariant-loop-k l = l.out ≡ splice l.initial.out l.at (take l.k l.s)
