-- `resolve::sweep::sweep` meets its contract. Assumes nothing.
use Prim.Native.Nat.{◌-◌}
use mathlib.Core.Path.{◌≡◌}
use lib.ListN.{length}
use Rattle.slices.specs.Limits.{chunk}
use Rattle.resolve.specs.Set.{Summed}
use Rattle.resolve.proofs.Laws.Turn.{Turn}
use Rattle.resolve.proofs.sweep.sweep.Given as goal

abbrev pub invariant-loop-q : goal.invariant-loop-q
invariant-loop-q l = (length l.marks ≡ length l.initial.marks) × (length l.tops ≡ length l.initial.tops) × Summed l.words l.sum × Turn l.pos l.ends l.order l.n l.words l.marks l.tops l.k l.q l.m

abbrev pub decreases-loop-q : goal.decreases-loop-q
decreases-loop-q l = chunk - l.q
