-- Laws of halving: how a search goes on, and where it ends. Assumes nothing.
use Prim.Native.Nat.{ℕ, zero, suc, pred, ◌+◌, ◌<◌, ◌≤◌}
use native.Mathlib.Omega.{arith}
use native.Mathlib.Nat.{le_refl}
use mathlib.Core.Path.{◌≡◌, refl, sym, ap, ◌∙◌}
use native.Mathlib.Decide.{dec_lt}
use borrow.Author.Tests.{lt-ltb, le-ltb}
use Rattle.seeking.specs.Seek.{middle, halve}

-- what is to be halved has something on both sides of the middle
pub middle_in : (low high : ℕ) → low + 1 < high → (low < middle low high) × (middle low high < high)
unfolding middle
middle_in low high h = (omega arith, omega arith)

module _ (first : ℕ → ℕ) (p : ℕ) where
  -- ---- one step

  module _ (n low high : ℕ) (h : low + 1 < high) where
    halve_lower : p < first (middle low high) → halve first p (suc n) low high ≡ halve first p n low (middle low high)
    unfolding halve
    halve_lower l = rw (lt-ltb (low + 1) high h, lt-ltb p (first (middle low high)) l)

    halve_upper : first (middle low high) ≤ p → halve first p (suc n) low high ≡ halve first p n (middle low high) high
    unfolding halve
    halve_upper l = rw (lt-ltb (low + 1) high h, le-ltb p (first (middle low high)) l)

  halve_stops : (n low high : ℕ) → high ≤ low + 1 → halve first p n low high ≡ low
  unfolding halve
  halve_stops zero low high h = refl
  halve_stops (suc n) low high h = rw (le-ltb (low + 1) high h)

  -- ---- a loop of such steps

  -- a search among the first n has come to low up to high: what is left of it ends where the whole does
  pub record Halving (n low high : ℕ) : Type 0 where
    pub left : ℕ
    pub some : low < high
    pub inside : high ≤ n
    pub enough : high ≤ low + 1 + left
    pub same : halve first p left low high ≡ halve first p n 0 n

  pub halving_start : (n : ℕ) → 0 < n → Halving n 0 n
  halving_start n h = record { left = n; some = h; inside = le_refl n; enough = omega arith; same = refl }

  module _ (n low high mid : ℕ) (v : Halving n low high) (h : low + 1 < high) (e : mid ≡ middle low high) where
    one_less : v.left ≡ suc (pred v.left)
    one_less = omega (arith, v.enough)

    pub halving_lower : p < first mid → Halving n low mid
    halving_lower l =
        let m = middle_in low high h in
        record {
          left = pred v.left;
          some = omega arith;
          inside = omega (arith, v.inside);
          enough = omega (arith, v.enough);
          same =
              rw e (
              sym (halve_lower (pred v.left) low high h (rw e at l))
              ∙ ap (λ (k : ℕ). halve first p k low high) (sym one_less)
              ∙ v.same
              );
        }

    pub halving_upper : first mid ≤ p → Halving n mid high
    halving_upper l =
        let m = middle_in low high h in
        record {
          left = pred v.left;
          some = omega arith;
          inside = v.inside;
          enough = omega (arith, v.enough);
          same =
              rw e (
              sym (halve_upper (pred v.left) low high h (rw e at l))
              ∙ ap (λ (k : ℕ). halve first p k low high) (sym one_less)
              ∙ v.same
              );
        }

  pub halving_end : (n low high : ℕ) → Halving n low high → high ≤ low + 1 → (low ≡ halve first p n 0 n) × (low < n)
  halving_end n low high v h = (sym (halve_stops v.left low high h) ∙ v.same, omega (arith, v.some, v.inside))

-- ---- where it ends

-- halving below `high` ended at k, which is Low, and the number after it is High
pub record Ends (Low High : ℕ → Type 0) (high k : ℕ) : Type 0 where
  pub below : k < high
  pub here : Low k
  pub next : High (suc k)

-- among the first N, where each number is Low whose segment starts at p or before it, and High where it starts behind p
module _ (first : ℕ → ℕ) (p N : ℕ) (Low High : ℕ → Type 0) (lows : (m : ℕ) → m < N → first m ≤ p → Low m) (highs : (m : ℕ) → m < N → p < first m → High m) where
  pub halve_ends : (n low high : ℕ) → low < high → high ≤ low + 1 + n → high ≤ N → Low low → High high → Ends Low High high (halve first p n low high)
  halve_ends zero low high h k i a b =
      let e : high ≡ suc low = omega arith in
      rw (halve_stops first p 0 low high (omega arith)) (record { below = h; here = a; next = rw e at b })
  halve_ends (suc n) low high h k i a b = go (dec_lt (low + 1) high) (halve_ends n)
    where
      -- in one of the halves
      half : low + 1 < high → Dec (p < first (middle low high))
          → ((low high : ℕ) → low < high → high ≤ low + 1 + n → high ≤ N → Low low → High high → Ends Low High high (halve first p n low high))
          → Ends Low High high (halve first p (suc n) low high)
      half s (yes l) ih =
          let m = middle_in low high s in
          let e = ih low (middle low high) m.0 (omega arith) (omega arith) a (highs (middle low high) (omega arith) l) in
          rw (halve_lower first p n low high s l) (record { below = omega (arith, e.below); here = e.here; next = e.next })
      half s (no l) ih =
          let m = middle_in low high s in
          let g : first (middle low high) ≤ p = omega arith in
          rw (halve_upper first p n low high s g) (ih (middle low high) high m.1 (omega arith) i (lows (middle low high) (omega arith) g) b)

      go : Dec (low + 1 < high)
          → ((low high : ℕ) → low < high → high ≤ low + 1 + n → high ≤ N → Low low → High high → Ends Low High high (halve first p n low high))
          → Ends Low High high (halve first p (suc n) low high)
      go (yes s) ih = half s (dec_lt p (first (middle low high))) ih
      go (no s) ih =
          let e : high ≡ suc low = omega arith in
          rw (halve_stops first p (suc n) low high (omega arith)) (record { below = h; here = a; next = rw e at b })

-- it ends below n, whatever the row holds
pub halve_below : (first : ℕ → ℕ) (p n : ℕ) → 0 < n → halve first p n 0 n < n
halve_below first p n h =
    (halve_ends first p n (λ _. Unit {0}) (λ _. Unit {0}) (λ m a b. tt) (λ m a b. tt) n 0 n h (omega arith) (le_refl n) tt tt).below
