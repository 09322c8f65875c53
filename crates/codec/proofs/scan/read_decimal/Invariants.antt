-- `codec::scan::read_decimal` meets its contract. The invariant: what is left to read gives what the whole gives. Assumes nothing.
use mathlib.Core.Path.{◌≡◌}
use Prim.Native.Nat.{◌-◌, ◌≤◌}
use lib.ListN.{length, drop}
use Rattle.codec.specs.Scan.{digit_at, more_digits, decimal_at}
use Rattle.codec.proofs.scan.read_decimal.Given as goal

abbrev pub invariant-loop-d : goal.invariant-loop-d
invariant-loop-d l = (l.value ≤ l.most) × (l.d ≡ digit_at (drop l.i l.text)) × (decimal_at l.least l.most l.at (drop l.at l.text) ≡ more_digits l.least l.most l.value l.i (drop l.i l.text))

abbrev pub decreases-loop-d : goal.decreases-loop-d
decreases-loop-d l = length l.text - l.i
