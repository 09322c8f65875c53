-- `seeking::half::halve` meets its contract. The invariant: what is left of the search ends where the whole does. Assumes nothing.
use Prim.Native.Nat.{ℕ, ◌-◌, ◌<◌, ◌≤◌}
use mathlib.Core.Path.{◌≡◌}
use Rattle.seeking.proofs.Laws.Halve.{Halving}
use Rattle.seeking.proofs.half.halve.Given as goal

abbrev pub invariant-loop-low : goal.invariant-loop-low
invariant-loop-low g l =
    record {
      some : l.low < l.high;
      inside : l.high ≤ l.n;
      halving : (starts : ℕ → ℕ) → ((i r : ℕ) → i < l.n → goal.F-post g l.first i r → r ≡ starts i) → Halving starts l.position l.n l.low l.high;
    }

abbrev pub decreases-loop-low : goal.decreases-loop-low
decreases-loop-low g l = l.high - l.low
