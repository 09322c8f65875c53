-- `seeking::half::halve` meets its contract. Assumes nothing.
use Prim.Native.Nat.{◌<◌}
use native.Mathlib.Omega.{arith}
use native.Mathlib.Nat.{le_refl}
use borrow.Author.Rules.{of_calls}
use Rattle.seeking.proofs.Laws.Halve.{middle_in, halving_start, halving_lower, halving_upper, halving_end}
use Rattle.seeking.proofs.half.halve.Goals as goal

pub loop-low-init : goal.loop-low-init
loop-low-init g c =
    record { some = c.requires.n_nonzero; inside = le_refl _; halving = λ starts h. halving_start _ _ _ c.requires.n_nonzero }

pub first-requires : goal.first-requires
first-requires g c =
    let inside : c.middle-mid.result < c.args.n = omega (arith, c.middle-mid.ensures, middle_in _ _ c.loop-low-test.true) in
    search (of_calls, c.requires.callable _ inside)

pub loop-low-smaller-then-position-first : goal.loop-low-smaller-then-position-first
loop-low-smaller-then-position-first g c = omega (arith, c.middle-mid.ensures, middle_in _ _ c.loop-low-test.true)

pub loop-low-preserved-then-position-first : goal.loop-low-preserved-then-position-first
loop-low-preserved-then-position-first g c =
    let mid = middle_in _ _ c.loop-low-test.true in
    let inside : c.middle-mid.result < c.args.n = omega (arith, c.middle-mid.ensures, mid) in
    record {
      some = omega (arith, c.middle-mid.ensures, mid);
      inside = omega arith;
      halving = λ starts h. halving_lower _ _ _ _ _ _ (c.loop-low.invariant.halving starts h) c.loop-low-test.true c.middle-mid.ensures (rw (← h _ _ inside c.first.ensures) c.if-position-first.true);
    }

pub loop-low-smaller : goal.loop-low-smaller
loop-low-smaller g c = omega (arith, c.middle-mid.ensures, middle_in _ _ c.loop-low-test.true)

pub loop-low-preserved : goal.loop-low-preserved
loop-low-preserved g c =
    let mid = middle_in _ _ c.loop-low-test.true in
    let inside : c.middle-mid.result < c.args.n = omega (arith, c.middle-mid.ensures, mid) in
    record {
      some = omega (arith, c.middle-mid.ensures, mid);
      inside = c.loop-low.invariant.inside;
      halving = λ starts h. halving_upper _ _ _ _ _ _ (c.loop-low.invariant.halving starts h) c.loop-low-test.true c.middle-mid.ensures (rw (← h _ _ inside c.first.ensures) c.if-position-first.false);
    }

pub returns-clause-value : goal.returns-clause-value
returns-clause-value g c = λ starts h. (halving_end _ _ _ _ _ (c.loop-low.invariant.halving starts h) c.loop-low-test.false).0
