-- The ends of a list's records, from the last of them down. Assumes nothing.
use Prim.Native.Nat.{ℕ, ◌+◌, ◌-◌, ◌<◌, ◌≤◌, min, max}
use mathlib.Core.Path.{◌≡◌}
use mathlib.Core.Bool.{cond}
use mathlib.Core.List.{List}
use lib.Dec.{eqb}
use Rattle.slices.specs.Limits.{chunk}
use Rattle.slices.specs.Record.{record_at, count}
use Rattle.compaction.specs.Inner.{lowest, highest}
use Rattle.slices.proofs.Laws.Left.{records_left, left_none, left_back}

module _ (bs : List ℕ) where
  pub lowest_none : (i : ℕ) → count bs ≤ i → chunk ≡ lowest (records_left bs i)
  unfolding lowest
  lowest_none i h = rw (left_none bs i h)

  pub lowest_back : (i low : ℕ) → 0 < i → i ≤ count bs → low ≡ lowest (records_left bs i)
      → cond (eqb (record_at bs (i - 1)).len 0) low (min (record_at bs (i - 1)).pos low) ≡ lowest (records_left bs (i - 1))
  unfolding lowest
  lowest_back i low h l e = rw (left_back bs i h l, e)

  pub highest_none : (i : ℕ) → count bs ≤ i → 0 ≡ highest (records_left bs i)
  unfolding highest
  highest_none i h = rw (left_none bs i h)

  pub highest_back : (i high : ℕ) → 0 < i → i ≤ count bs → high ≡ highest (records_left bs i)
      → cond (eqb (record_at bs (i - 1)).len 0) high (max ((record_at bs (i - 1)).pos + (record_at bs (i - 1)).len) high) ≡ highest (records_left bs (i - 1))
  unfolding highest
  highest_back i high h l e = rw (left_back bs i h l, e)
