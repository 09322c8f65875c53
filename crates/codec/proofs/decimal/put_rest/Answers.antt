-- `codec::decimal::put_rest` meets its contract: the last pair, and before it what is left. Assumes nothing.
use Rattle.codec.proofs.Laws.Pairs.{decimal_pairs, pairs_width, put_before}
use native.Mathlib.Omega.{arith}
use Prim.Native.Nat.{ℕ, ◌-◌, ◌*◌, ◌/◌, ◌%◌}
use mathlib.Core.Path.{◌≡◌, sym, ap, ◌∙◌}
use Rattle.codec.specs.Decimal.{decimal}
use Rattle.codec.specs.Pairs.{pair}
use Rattle.codec.specs.Splice.{splice}
use Rattle.codec.proofs.decimal.put_rest.Goals as goal

pub overflow_sub-end : goal.overflow_sub-end
overflow_sub-end c = omega (arith, c.requires.1, pairs_width c.args.n (omega arith))

pub put_pair-requires : goal.put_pair-requires
put_pair-requires c = (omega arith, omega (arith, overflow_sub-end c))

pub put_few-requires-2 : goal.put_few-requires-2
put_few-requires-2 c =
    (omega arith, omega (arith, c.requires.1, c.requires.2, pairs_width c.args.n (omega arith), c.put_pair.auto.out))

pub returns : goal.returns
returns c =
    let a = c.args in
    let w = pairs_width a.n (omega arith) in
    let e : a.n - a.n / 100 * 100 ≡ a.n % 100 = omega arith in
    put_before a.out.now a.at (a.end - 2) (decimal (a.n / 100)) (pair (a.n % 100)) (omega (arith, w, c.requires.1)) (omega (arith, w, c.requires.1, c.requires.2)) (c.put_pair.ensures ∙ ap (λ (m : ℕ). splice a.out.now (a.end - 2) (pair m)) e) c.put_few-2.ensures
    ∙ ap (splice a.out.now a.at) (sym (decimal_pairs a.n (omega arith)))
