-- `codec::decimal::put_few` meets its contract: a pair, or one digit. Assumes nothing.
use Rattle.codec.proofs.Laws.Decimal.{decimal_digit, decimal_some, decimal_two}
use Rattle.codec.proofs.Laws.Pairs.{decimal_pair}
use Rattle.codec.proofs.Laws.Splice.{splice_one}
use mathlib.Core.Path.{sym, ap, ◌∙◌}
use Rattle.codec.specs.Splice.{splice}
use Prim.Native.Nat.{◌+◌}
use native.Mathlib.Omega.{arith}
use Rattle.codec.proofs.decimal.put_few.Goals as goal

pub put_pair-requires : goal.put_pair-requires
put_pair-requires c = (omega arith, omega (arith, decimal_two c.args.n c.if-n-gt9.true))

pub returns-then-n-gt9 : goal.returns-then-n-gt9
returns-then-n-gt9 c =
    c.put_pair.ensures ∙ ap (splice c.args.out.now c.args.at) (sym (decimal_pair c.args.n (omega arith) c.requires.0))

pub bounds-out-at : goal.bounds-out-at
bounds-out-at c = omega (arith, decimal_some c.args.n)

pub returns : goal.returns
returns c =
    let a = c.args in
    splice_one a.out.now a.at (48 + a.n) (bounds-out-at c) ∙ ap (splice a.out.now a.at) (sym (decimal_digit a.n (omega arith)))
