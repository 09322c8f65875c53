-- The first number of which P holds, by a test that tells it. Assumes nothing.
use Prim.Native.Nat.{ℕ, ◌<◌}
use native.Mathlib.Omega.{arith}
use native.Mathlib.Decide.{dec_lt}
use mathlib.Core.Path.{◌≡◌, sym, ◌∙◌}
use mathlib.Core.Bool.{Bool, true, false≢true}
use lib.Dec.{ltb}
use borrow.Author.Tests.{ltb-true, lt-ltb}
use Rattle.coverage.specs.Least.{least}
use Rattle.coverage.proofs.Laws.Least.{least_is, least_true, least_before}
use Rattle.judging.proofs.Laws.Tells.{Tells, tells_false}

module _ {t : ℕ → Bool} {n : ℕ} {P : ℕ → Type 0} (tells : (k : ℕ) → k < n → Tells (t k) (P k)) where
  -- below n and before the first it holds of none
  pub not_before : (k : ℕ) → k < n → k < least t n → P k → ⊥
  not_before k l h p = false≢true (sym (least_before t n k h) ∙ (tells k l).1 p)

  pub holds_first : least t n < n → P (least t n)
  holds_first l = (tells (least t n) l).0 (least_true t n l)

  -- the first is where it holds and holds of none before; n where it holds of none
  pub first_is : (k : ℕ) → k < n → P k → ((j : ℕ) → j < k → P j → ⊥) → least t n ≡ k
  first_is k l p none = least_is t n k (omega arith) (λ j h. tells_false (t j) (tells j (omega arith)) (none j h)) (λ h. (tells k l).1 p)

  pub none_is : ((j : ℕ) → j < n → P j → ⊥) → least t n ≡ n
  none_is none = least_is t n n (omega arith) (λ j h. tells_false (t j) (tells j h) (none j h)) (λ h. absurd (omega arith))

  -- whether it holds of some
  pub some_tells : Tells (ltb (least t n) n) ((j : ℕ) × (j < n) × P j)
  some_tells = (λ h. let l = ltb-true (least t n) n h in (least t n, l, holds_first l), λ s. found s.0 s.1 s.2 (dec_lt s.0 (least t n)))
    where
      found : (j : ℕ) → j < n → P j → Dec (j < least t n) → ltb (least t n) n ≡ true
      found j l p (yes b) = absurd (not_before j l b p)
      found j l p (no b) = lt-ltb (least t n) n (omega arith)
