-- `codec::decimal::put_digits` meets its contract. The invariant: what is left of n, put in front of what stands, gives all of n. Assumes nothing.
use lib.ListN.{length}
use Prim.Native.Nat.{◌+◌, ◌≤◌}
use mathlib.Core.Path.{◌≡◌}
use Rattle.codec.specs.Decimal.{decimal}
use Rattle.codec.specs.Splice.{splice}
use Rattle.codec.proofs.decimal.put_digits.Given as goal

abbrev pub invariant-loop-rest : goal.invariant-loop-rest
invariant-loop-rest l = (l.end ≡ l.at + length (decimal l.rest)) × (length l.out ≡ length l.initial.out) × (l.end ≤ length l.out) × (l.rest ≤ l.n) × (splice l.out l.at (decimal l.rest) ≡ splice l.initial.out l.at (decimal l.n))

abbrev pub decreases-loop-rest : goal.decreases-loop-rest
decreases-loop-rest l = l.rest
