-- `listing::lines::put_field` meets its contract: the number's digits, and the byte behind them. Assumes nothing.
use native.Mathlib.Omega.{arith}
use mathlib.Core.Path.{refl}
use mathlib.Core.List.{[], ◌∷◌}
use Rattle.codec.specs.Decimal.{decimal}
use Rattle.codec.specs.Inner.{Puts}
use Rattle.listing.specs.Listing.{field}
use Rattle.codec.proofs.Laws.Splice.{puts_then, splice_one}
use Rattle.listing.proofs.lines.put_field.Goals as goal

pub returns : goal.returns
unfolding field
returns c =
    let a = c.args in
    let d : Puts a.out.now a.at (decimal a.n) 20 _ _ = record { leaves = c.put_decimal-end.ensures.2; ends = c.put_decimal-end.ensures.0; fits = omega arith } in
    let s : Puts c.put_decimal-end.new.out c.put_decimal-end.result (a.after ∷ []) 1 _ _ = record { leaves = splice_one c.put_decimal-end.new.out c.put_decimal-end.result a.after (omega arith); ends = refl; fits = omega arith } in
    let both = puts_then d s (omega arith) in
    (both.ends, omega arith, both.leaves)
