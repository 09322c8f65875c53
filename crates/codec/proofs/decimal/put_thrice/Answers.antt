-- `codec::decimal::put_thrice` meets its contract. The invariant: what is left of n, put at each place in front of what stands, gives all of n. Assumes nothing.
use Rattle.codec.proofs.Laws.Pairs.{pairs_width}
use Rattle.codec.proofs.Laws.Thrice.{thrice_steps, thrice_turn}
use native.Mathlib.Omega.{arith}
use mathlib.Core.Path.{refl, ◌∙◌}
use Rattle.codec.specs.Decimal.{decimal}
use Rattle.codec.proofs.decimal.put_thrice.Goals as goal
use Rattle.codec.proofs.decimal.put_thrice.Goals.{In-loop-rest}

pub loop-rest-init : goal.loop-rest-init
loop-rest-init c = (c.requires.0, omega arith, refl, omega arith, refl)

pub overflow_sub-i : goal.overflow_sub-i
overflow_sub-i c = omega (arith, c.loop-rest.invariant.0, pairs_width c.loop-rest.rest c.loop-rest-test.true)

pub overflow_add-a : goal.overflow_add-a
overflow_add-a c = omega (arith, c.loop-rest.invariant.1, c.requires.1, c.ranges.b)

pub overflow_add-b : goal.overflow_add-b
overflow_add-b c = omega (arith, c.loop-rest.invariant.1, c.requires.2, c.ranges.c)

pub overflow_add-c : goal.overflow_add-c
overflow_add-c c = omega (arith, c.loop-rest.invariant.1, c.requires.3)

pub overflow_mul-next : goal.overflow_mul-next
overflow_mul-next c = omega (arith, c.loop-rest.invariant.3, c.ranges.n)

pub put_pair_thrice-requires : goal.put_pair_thrice-requires
put_pair_thrice-requires c =
    let n = overflow_sub-i (goal.at.put_pair_thrice-requires c).In-loop-rest in (
      omega arith,
      omega (arith, n, c.loop-rest.invariant.1, c.requires.1),
      omega (arith, n, c.loop-rest.invariant.1, c.requires.2),
      omega (arith, n, c.loop-rest.invariant.1, c.loop-rest.invariant.2, c.requires.3),
    )

pub loop-rest-preserved : goal.loop-rest-preserved
loop-rest-preserved c =
    let v = c.loop-rest.invariant in
    let a = c.args in
    let w = pairs_width c.loop-rest.rest (omega arith) in (
      omega (arith, w, v.0),
      omega (arith, v.1),
      c.put_pair_thrice.auto.out ∙ v.2,
      omega (arith, v.3),
      thrice_turn c.loop-rest.out a.a a.b a.c c.loop-rest.i c.loop-rest.rest (omega arith) v.0 (omega (arith, v.1, c.requires.1)) (omega (arith, v.1, c.requires.2)) (omega (arith, v.1, v.2, c.requires.3)) c.put_pair_thrice.ensures
          ∙ v.4,
    )

pub put_few-requires : goal.put_few-requires
put_few-requires c =
    let v = c.loop-rest.invariant in
    (omega arith, omega (arith, v.0, v.1, v.2, c.requires.3))

pub put_few-requires-2 : goal.put_few-requires-2
put_few-requires-2 c =
    let v = c.loop-rest.invariant in
    (omega arith, omega (arith, v.0, v.1, v.2, c.requires.2, c.requires.3, c.put_few.auto.out))

pub put_few-requires-3 : goal.put_few-requires-3
put_few-requires-3 c =
    let v = c.loop-rest.invariant in
    (omega arith, omega (arith, v.0, v.1, v.2, c.requires.1, c.requires.2, c.requires.3, c.put_few.auto.out, c.put_few-2.auto.out))

pub shape_of-out : goal.shape_of-out
shape_of-out c = c.put_few-3.auto.out ∙ c.put_few-2.auto.out ∙ c.put_few.auto.out ∙ c.loop-rest.invariant.2

pub returns : goal.returns
returns c =
    let a = c.args in
    thrice_steps c.loop-rest.out a.a a.b a.c (decimal c.loop-rest.rest) c.put_few.ensures c.put_few-2.ensures c.put_few-3.ensures ∙ c.loop-rest.invariant.4
