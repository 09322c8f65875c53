-- `judging::sifting::sift_on` meets its contract. The invariant: the pieces of chunk k before i lie where they say. Assumes nothing.
use native.Mathlib.Omega.{arith}
use mathlib.Core.Path.{refl}
use Rattle.slices.specs.Limits.{chunk}
use Rattle.judging.proofs.Laws.Forms.{form_read}
use Rattle.judging.proofs.Laws.Places.{some_segment}
use Rattle.judging.proofs.Laws.Sifting.{sift_other, sift_lies, sift_strays, sift_end}
use Rattle.resolve.proofs.Laws.Ready.{ready_of}
use Rattle.judging.proofs.sifting.sift_on.Goals as goal
use Rattle.judging.proofs.sifting.sift_on.Goals.{then-at-k+in-Some, else-at-k}

pub loop-i-init : goal.loop-i-init
loop-i-init c = (λ j l. absurd (omega arith), some_segment _ _ _ _ (ready_of c.args.r.now.ready).resolved)

pub overflow_add-at : goal.overflow_add-at
overflow_add-at c =
    let f = form_read _ _ _ _ _ _ c.requires.limit_in_bounds.1 c.loop-i-test.true c.read_piece-p.ensures in omega (arith, f.inside, c.requires.n_bound)

pub overflow_add-q : goal.overflow_add-q
unfolding chunk
overflow_add-q c =
    let f = form_read _ _ _ _ _ _ c.requires.limit_in_bounds.1 c.loop-i-test.true c.read_piece-p.ensures in omega (arith, f.fits)

pub meet-requires : goal.meet-requires
unfolding chunk
meet-requires c =
    let f = form_read _ _ _ _ _ _ c.requires.limit_in_bounds.1 c.loop-i-test.true c.read_piece-p.ensures in
    record { q_lt_end = (omega (arith, f.some), f.fits, c.loop-i.invariant.1) }

pub returns-in_default : goal.returns-in_default
unfolding chunk
returns-in_default c =
    sift_strays _ _ _ _ _ _ c.loop-i.invariant.0 c.read_piece-p.ensures _ refl _ _ refl refl _ c.loop-i-test.true _ refl c.if-at-k.true c.in_default.ensures

pub loop-i-preserved : goal.loop-i-preserved
unfolding chunk
loop-i-preserved c =
    let i = c.loop-i.invariant in
    elim c.if-at-k.branch [
      | then-at-k+in-Some w ↦
          let m = rw w.in-Some.is at w.meet.ensures in
          (sift_lies _ _ _ _ _ _ i.0 c.read_piece-p.ensures _ refl _ _ refl refl m.0, rw w.near-is m.1)
      | else-at-k w ↦ (sift_other _ _ _ _ _ _ i.0 c.read_piece-p.ensures _ refl _ refl w.if-at-k.false, rw w.near-is i.1)
    ]

pub returns : goal.returns
returns c = sift_end _ _ _ _ _ _ _ c.loop-i-test.false c.loop-i.invariant.0
