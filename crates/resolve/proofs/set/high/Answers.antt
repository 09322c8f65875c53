-- `resolve::set::high` meets its contract. Assumes nothing.
use Prim.Native.Nat.{ℕ, ◌-◌, ◌^◌, ◌<◌}
use native.Mathlib.Omega.{arith}
use mathlib.Core.Path.{◌≡◌, ap, ◌∙◌}
use lib.Count.{count_trailing_zeros}
use Rattle.resolve.specs.Set.{High, bit}
use Rattle.resolve.proofs.Laws.Digits.{low_is, low_below}
use Rattle.resolve.proofs.set.high.Goals as goal

high_of : (w : ℕ) → 0 < w → w < 2 ^ 64 → High w (63 - count_trailing_zeros 64 w)
high_of w a b =
    let t = low_is 64 w a b in
    let e : 63 - (63 - count_trailing_zeros 64 w) ≡ count_trailing_zeros 64 w = omega (arith, t.1) in
    record { within = omega arith; one = ap (bit w) e ∙ t.0; above = λ c l h. low_below 64 w (63 - c) (omega arith) }

pub returns : goal.returns
returns c = high_of c.args.w c.requires c.ranges.w.fits
