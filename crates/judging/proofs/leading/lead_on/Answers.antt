-- `judging::leading::lead_on` meets its contract. The invariant: the pieces before `number` stand in order up to `place`. Assumes nothing.
use native.Mathlib.Omega.{arith}
use mathlib.Core.Path.{◌≡◌, refl}
use Prim.Native.Nat.{◌/◌}
use lib.ListN.{length}
use Rattle.plans.specs.Piece.{piece_size}
use Rattle.slices.specs.Limits.{chunk}
use Rattle.judging.proofs.Laws.Places.{some_segment}
use Rattle.judging.proofs.Laws.Leading.{leads_start, next_fits, next_some, next_inside, leads_more}
use Rattle.resolve.proofs.Laws.Ready.{ready_of}
use Rattle.judging.proofs.leading.lead_on.Goals as goal

pub loop-number-init : goal.loop-number-init
loop-number-init c =
    (leads_start _ _ _ _ _ _ _ _ _ c.requires.number_in_bounds.0 c.requires.number_in_bounds.1 c.requires.number_in_bounds.2, some_segment _ _ _ _ (ready_of c.args.r.now.ready).resolved)

pub read_piece-p-requires : goal.read_piece-p-requires
read_piece-p-requires c = omega (arith, c.loop-number-test.true)

pub comes_next-requires : goal.comes_next-requires
comes_next-requires c = c.requires.n_bound

pub overflow_add-q : goal.overflow_add-q
overflow_add-q c = omega (arith, c.loop-number.invariant.0.inside, c.requires.n_bound)

pub overflow_add-q-in-loop-number : goal.overflow_add-q-in-loop-number
unfolding chunk
overflow_add-q-in-loop-number c =
    let t = c.comes_next.ensures c.if-not-comes_next.false in
    omega (arith, next_fits _ _ _ _ _ t.0 t.1)

pub meet-requires : goal.meet-requires
unfolding chunk
meet-requires c =
    let t = c.comes_next.ensures c.if-not-comes_next.false in
    let s = next_some _ _ _ _ _ t.0 t.1 in
    record { q_lt_end = (omega arith, next_fits _ _ _ _ _ t.0 t.1, c.loop-number.invariant.1) }

pub overflow_add-place : goal.overflow_add-place
unfolding chunk
overflow_add-place c =
    let t = c.comes_next.ensures c.if-not-comes_next.false in
    omega (arith, next_inside _ _ _ _ _ t.0 t.1, c.requires.n_bound)

pub loop-number-preserved : goal.loop-number-preserved
unfolding chunk
loop-number-preserved c =
    let t = c.comes_next.ensures c.if-not-comes_next.false in
    let m = rw c.in-Some.is at c.meet.ensures in
    (leads_more _ _ _ _ _ _ _ _ _ _ c.read_piece-p.ensures t.0 t.1 c.loop-number.invariant.0 c.loop-number-test.true t.2 _ _ refl refl m.0, m.1)

pub returns-in_default : goal.returns-in_default
returns-in_default c = c.loop-number.invariant.0

pub returns-then-not-comes_next : goal.returns-then-not-comes_next
returns-then-not-comes_next c = c.loop-number.invariant.0

pub returns : goal.returns
returns c =
    let e : c.loop-number.number ≡ length c.args.plan.now / piece_size = omega (arith, c.loop-number-test.false, c.requires.number_in_bounds.0) in
    rw e at c.loop-number.invariant.0
