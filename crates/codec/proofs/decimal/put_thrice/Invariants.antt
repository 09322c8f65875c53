-- `codec::decimal::put_thrice` meets its contract. The invariant: what is left of n, put at each place in front of what stands, gives all of n. Assumes nothing.
use Rattle.codec.proofs.Laws.Thrice.{thrice}
use lib.ListN.{length}
use Prim.Native.Nat.{◌≤◌}
use mathlib.Core.Path.{◌≡◌}
use Rattle.codec.specs.Decimal.{decimal}
use Rattle.codec.proofs.decimal.put_thrice.Given as goal

abbrev pub invariant-loop-rest : goal.invariant-loop-rest
invariant-loop-rest l = (l.i ≡ length (decimal l.rest)) × (l.i ≤ l.width) × (length l.out ≡ length l.initial.out) × (l.rest ≤ l.n) × (thrice l.out l.a l.b l.c (decimal l.rest) ≡ thrice l.initial.out l.a l.b l.c (decimal l.n))

abbrev pub decreases-loop-rest : goal.decreases-loop-rest
decreases-loop-rest l = l.rest
