-- `resolve::sweep::sweep` meets its contract. Assumes nothing.
use Prim.Native.Nat.{◌+◌, ◌≤◌}
use native.Mathlib.Omega.{arith}
use mathlib.Core.Path.{◌≡◌, refl, ◌∙◌}
use lib.ListN.{length, length-set}
use Rattle.slices.specs.Limits.{chunk}
use Rattle.resolve.proofs.Laws.Set.{empty_summed, empty_has}
use Rattle.resolve.proofs.Laws.Turn.{turn_start, turned, paid}
use Rattle.resolve.proofs.Laws.Sweep.{top_most}
use Rattle.resolve.proofs.sweep.sweep.Goals as goal
use Rattle.resolve.proofs.sweep.sweep.Goals.{After-settle-highest, At-loop-q}

-- the marks' length stays
same : (c : At-loop-q) → length c.loop-q.marks ≡ length c.args.marks.now
same c = c.loop-q.invariant.0 ∙ length-set c.args.marks.now 0 0

-- a segment has room
pay : (c : After-settle-highest) → c.loop-q.m ≤ c.args.n + c.args.n
unfolding chunk
pay c =
    let h = paid _ _ _ _ c.requires.sorted c.requires.by_index _ _ _ _ _ _ c.loop-q.invariant.3 c.loop-q-test.true _ _ _ _ _ _ c.begin-started.ensures.begun c.begin-started.ensures.next c.settle-highest.ensures.settled c.settle-highest.ensures.topped in
    omega (arith, h, c.begin-started.ensures.begun.inside)

pub loop-q-init : goal.loop-q-init
loop-q-init c =
    (refl, refl, empty_summed, turn_start _ _ _ _ _ c.args.marks.now _ empty_has (omega (arith, c.requires.n_in_bounds_2.0)))

pub begin-started-requires-clause-n_in_bounds : goal.begin-started-requires-clause-n_in_bounds
unfolding chunk
begin-started-requires-clause-n_in_bounds c =
    let n = c.requires.n_in_bounds in
    (n.0, n.2, n.3, c.loop-q.invariant.3.begun, c.loop-q-test.true, n.4)

pub overflow_cast-highest : goal.overflow_cast-highest
overflow_cast-highest c = record { fits = omega (arith, top_most _ _ _ _ _ c.settle-highest.ensures.topped) }

pub extend-m-requires : goal.extend-m-requires
extend-m-requires c =
    let m = pay (goal.at.extend-m-requires c).After-settle-highest in
    (omega (arith, m, c.requires.n_in_bounds_2.0, same (goal.at.extend-m-requires c).At-loop-q), omega (arith, m, c.requires.n_in_bounds_2.1, c.loop-q.invariant.1))

pub loop-q-preserved : goal.loop-q-preserved
unfolding chunk
loop-q-preserved c =
    let l = c.loop-q.invariant in
    let m = pay (goal.at.loop-q-preserved c).After-settle-highest in
    (c.extend-m.auto.marks ∙ l.0, c.extend-m.auto.tops ∙ l.1, c.settle-highest.ensures.summed_2, turned _ _ _ _ c.requires.sorted c.requires.by_index _ _ _ _ _ _ l.3 c.loop-q-test.true _ _ _ _ _ _ c.begin-started.ensures.begun c.begin-started.ensures.next c.settle-highest.ensures.settled c.settle-highest.ensures.topped _ c.lesser-q.ensures (omega (arith, m, c.requires.n_in_bounds_2.0, same (goal.at.loop-q-preserved c).At-loop-q)) (omega (arith, m, c.requires.n_in_bounds_2.1, l.1)) _ _ _ c.extend-m.ensures)

pub returns-clause-swept : goal.returns-clause-swept
unfolding chunk
returns-clause-swept c =
    let t = c.loop-q.invariant.3 in
    let e : c.loop-q.q ≡ chunk = omega (arith, t.inside, c.loop-q-test.false) in
    rw e at t.swept
