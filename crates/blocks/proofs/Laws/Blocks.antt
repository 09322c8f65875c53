-- Laws of block sizes: which are allowed, and that the code's test finds them. Assumes nothing.
use Prim.Native.Nat.{ℕ, suc, ◌*◌, ◌%◌, ◌^◌, ◌<◌, ◌≤◌}
use native.Mathlib.Omega.{arith}
use native.Mathlib.Decide.{dec_lt}
use native.Mathlib.Nat.{pow-succ'}
use lib.Pow.{pow_mono}
use mathlib.Core.Path.{◌≡◌, refl, ap, ◌∙◌}
use mathlib.Core.Logic.{◌↔◌}
use mathlib.Core.Bool.{Bool, true, false, ◌&&◌, false≢true}
use lib.Dec.{leb, eqb}
use borrow.Author.Tests.{leb-true, le-leb}
use Rattle.blocks.specs.Blocks.{smallest, largest, power_below, block_allowed}
use Rattle.blocks.proofs.Laws.Powers.{power_in, power_out, power_test}

-- a power of two from 65,536 to 16,777,216
pub record Allowed (B : ℕ) : Type 0 where
  pub exponent : ℕ
  pub power : B ≡ 2 ^ exponent
  pub low : smallest ≤ B
  pub high : B ≤ largest

module _ (B : ℕ) where
  all_three : (s t u : Bool) → leb smallest B ≡ s → leb B largest ≡ t → power_below 25 B ≡ u → (s && (t && u)) ≡ true → Allowed B
  all_three true true true hs ht hu h =
      let p = power_out 25 B hu in
      record { exponent = p.0; power = p.2; low = leb-true smallest B hs; high = leb-true B largest ht }
  all_three true true false hs ht hu h = absurd (false≢true h)
  all_three true false u hs ht hu h = absurd (false≢true h)
  all_three false t u hs ht hu h = absurd (false≢true h)

  pub allowed_is : block_allowed B ≡ true → Allowed B
  unfolding block_allowed
  allowed_is h = all_three (leb smallest B) (leb B largest) (power_below 25 B) refl refl refl h

  is_allowed : Allowed B → block_allowed B ≡ true
  unfolding block_allowed
  is_allowed a = rw (le-leb smallest B a.low, le-leb B largest a.high) (power_in 25 a.exponent B (below (dec_lt a.exponent 25)) a.power)
    where
      below : Dec (a.exponent < 25) → a.exponent < 25
      below (yes l) = l
      below (no l) = absurd (omega (arith, a.power, a.high, pow_mono {i = 25} {j = a.exponent} (omega arith)))

  -- a block size is allowed exactly when it is a power of two from 65,536 to 16,777,216
  pub allowed_exactly : (block_allowed B ≡ true) ↔ Allowed B
  allowed_exactly = (allowed_is, is_allowed)

  pub block_range : block_allowed B ≡ true → (smallest ≤ B) × (B ≤ largest)
  block_range h =
      let a = allowed_is h in
      (a.low, a.high)

  -- ---- the code's test

  pub block_rest : smallest ≤ B → B ≤ largest → eqb (largest % B) 0 ≡ block_allowed B
  unfolding block_allowed
  block_rest h l = rw (le-leb smallest B h, le-leb B largest l) (power_test 24 B)

-- ---- the exponent

-- 2 ^ k is not above B, and the next power is
pub exponent_is : (B k : ℕ) → block_allowed B ≡ true → 2 ^ k ≤ B → B < 2 * 2 ^ k → B ≡ 2 ^ k
exponent_is B k h low next = go (allowed_is B h)
  where
    go : Allowed B → B ≡ 2 ^ k
    go a = at (dec_lt k a.exponent) (dec_lt a.exponent k)
      where
        at : Dec (k < a.exponent) → Dec (a.exponent < k) → B ≡ 2 ^ k
        at (yes i) j = absurd (omega (arith, a.power, pow-succ' 2 k, pow_mono {i = suc k} {j = a.exponent} (omega arith)))
        at (no i) (yes j) = absurd (omega (arith, a.power, pow-succ' 2 a.exponent, pow_mono {i = suc a.exponent} {j = k} (omega arith)))
        at (no i) (no j) =
            let e : a.exponent ≡ k = omega arith in
            a.power ∙ ap (λ (n : ℕ). 2 ^ n) e
