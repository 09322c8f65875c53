-- `joined::adds_up` meets its contract. The invariant: what is left, and the lengths so far, are the bytes. Assumes nothing.
use Prim.Native.Nat.{◌+◌}
use mathlib.Core.Path.{◌≡◌}
use lib.ListN.{drop}
use Rattle.joined.specs.Lists.{total}
use Rattle.joined.proofs.adds_up.Given as goal

abbrev pub invariant-loop-n : goal.invariant-loop-n
invariant-loop-n l = total l.lengths + l.left ≡ total (drop l.n-index l.lengths) + l.bytes
