-- Laws of the first number of which something is true. Assumes nothing.
use Prim.Native.Nat.{ℕ, zero, suc, ◌+◌, ◌≤◌, ◌<◌}
use native.Mathlib.Omega.{arith}
use native.Mathlib.Decide.{ℕ_discrete}
use mathlib.Core.Path.{◌≡◌, refl, ap, ◌∙◌}
use mathlib.Core.Bool.{Bool, true, false, cond}
use Rattle.coverage.specs.Least.{least_from, least}

-- q is the first of the n numbers from `at` on
abbrev First : (ℕ → Bool) → ℕ → ℕ → ℕ → Type 0
First t at n q = (at ≤ q) × (q ≤ at + n) × ((p : ℕ) → at ≤ p → p < q → t p ≡ false) × (q < at + n → t q ≡ true)

-- there is no other
from_is : (t : ℕ → Bool) (at n q : ℕ) → First t at n q → least_from t at n ≡ q
unfolding least_from
from_is t at zero q f = omega arith
from_is t at (suc n) q f =
    go (ℕ_discrete at q) (λ h. from_is t (suc at) n q (h, omega arith, λ p x y. f.2 p (omega arith) y, λ x. f.3 (omega arith)))
  where
    go : Dec (at ≡ q) → (suc at ≤ q → least_from t (suc at) n ≡ q) → least_from t at (suc n) ≡ q
    go (yes e) rest = rw (e, f.3 (omega arith))
    go (no e) rest = ap (λ (b : Bool). cond b at (least_from t (suc at) n)) (f.2 at (omega arith) (omega arith)) ∙ rest (omega arith)

-- and it is found
from_has : (t : ℕ → Bool) (at n : ℕ) → First t at n (least_from t at n)
unfolding least_from
from_has t at zero = (omega arith, omega arith, λ p x y. absurd (omega arith), λ h. absurd (omega arith))
from_has t at (suc n) = go (t at) refl (from_has t (suc at) n)
  where
    go : (b : Bool) → t at ≡ b → First t (suc at) n (least_from t (suc at) n) → First t at (suc n) (cond b at (least_from t (suc at) n))
    go true e h = (omega arith, omega arith, λ p x y. absurd (omega arith), λ x. e)
    go false e h = (omega arith, omega arith, λ p x y. first p (ℕ_discrete p at) x y, λ x. h.3 (omega arith))
      where
        first : (p : ℕ) → Dec (p ≡ at) → at ≤ p → p < least_from t (suc at) n → t p ≡ false
        first p (yes f) x y = rw f e
        first p (no f) x y = h.2 p (omega arith) y

pub least_is : (t : ℕ → Bool) (n q : ℕ) → q ≤ n → ((p : ℕ) → p < q → t p ≡ false) → (q < n → t q ≡ true) → least t n ≡ q
unfolding least
least_is t n q a none some = from_is t 0 n q (omega arith, omega arith, λ p x y. none p y, λ x. some (omega arith))

pub least_true : (t : ℕ → Bool) (n : ℕ) → least t n < n → t (least t n) ≡ true
unfolding least
least_true t n h = (from_has t 0 n).3 (omega arith)

pub least_before : (t : ℕ → Bool) (n p : ℕ) → p < least t n → t p ≡ false
unfolding least
least_before t n p h = (from_has t 0 n).2 p (omega arith) h
