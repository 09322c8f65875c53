-- `codec::decimal::put_digits` meets its contract. The invariant: what is left of n, put in front of what stands, gives all of n. Assumes nothing.
use Rattle.codec.proofs.Laws.Pairs.{decimal_fours, fours_width, put_before}
use native.Mathlib.Omega.{arith}
use Prim.Native.Nat.{ℕ, ◌-◌, ◌*◌, ◌/◌, ◌%◌}
use mathlib.Core.Path.{◌≡◌, refl, sym, ap, ◌∙◌}
use Rattle.codec.specs.Pairs.{four}
use Rattle.codec.specs.Decimal.{decimal}
use Rattle.codec.specs.Splice.{splice}
use Rattle.codec.proofs.decimal.put_digits.Goals as goal
use Rattle.codec.proofs.decimal.put_digits.Goals.{In-loop-rest}

pub loop-rest-init : goal.loop-rest-init
loop-rest-init c = (omega arith, refl, omega arith, omega arith, refl)

pub overflow_sub-end : goal.overflow_sub-end
overflow_sub-end c = omega (arith, fours_width c.loop-rest.rest c.loop-rest-test.true)

pub overflow_mul-next : goal.overflow_mul-next
overflow_mul-next c = omega (arith, c.ranges.n)

pub put_four-requires : goal.put_four-requires
put_four-requires c =
    (omega arith, omega (arith, overflow_sub-end (goal.at.put_four-requires c).In-loop-rest, c.loop-rest.invariant.2))

pub loop-rest-preserved : goal.loop-rest-preserved
loop-rest-preserved c =
    let w = fours_width c.loop-rest.rest (omega arith) in
    let e : c.loop-rest.rest - c.loop-rest.rest / 10000 * 10000 ≡ c.loop-rest.rest % 10000 = omega arith in (
      omega (arith, w, c.loop-rest.invariant.0),
      c.put_four.auto.out ∙ c.loop-rest.invariant.1,
      omega (arith, c.put_four.auto.out, c.loop-rest.invariant.2),
      omega arith,
      put_before c.loop-rest.out c.args.at (c.loop-rest.end - 4) (decimal (c.loop-rest.rest / 10000)) (four (c.loop-rest.rest % 10000)) (omega (arith, w, c.loop-rest.invariant.0)) (omega (arith, overflow_sub-end (goal.at.loop-rest-preserved c).In-loop-rest, c.loop-rest.invariant.2)) (c.put_four.ensures ∙ ap (λ (m : ℕ). splice c.loop-rest.out (c.loop-rest.end - 4) (four m)) e) refl
          ∙ ap (splice c.loop-rest.out c.args.at) (sym (decimal_fours c.loop-rest.rest (omega arith))) ∙ c.loop-rest.invariant.4,
    )

pub put_rest-requires : goal.put_rest-requires
put_rest-requires c = (omega arith, c.loop-rest.invariant.0, c.loop-rest.invariant.2)

pub shape_of-out : goal.shape_of-out
shape_of-out c = c.put_rest.auto.out ∙ c.loop-rest.invariant.1

pub returns : goal.returns
returns c =
    record { leaves = c.put_rest.ensures ∙ c.loop-rest.invariant.4; ends = omega (arith, c.requires.0); fits = omega (arith, c.requires.0) }
