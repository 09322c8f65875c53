-- The divisors of a power of two are the powers of two up to it. Assumes nothing.
use Prim.Native.Nat.{ℕ, zero, suc, ◌+◌, ◌-◌, ◌*◌, ◌/◌, ◌%◌, ◌^◌, ◌<◌, ◌≤◌}
use native.Mathlib.Omega.{arith}
use native.Mathlib.Nat.{mul-zero, zero-mul, mul_assoc, add-mul, one-mul, le-mul_of_pos_right, eq_of_mul-eq-mul_left, eq_of_mul-eq-mul_right, div-add-mod, mul-mod_right, pow-suc, pow-succ'}
use native.Mathlib.Decide.{ℕ_discrete}
use lib.Pow.{pow-add}
use mathlib.Core.Path.{◌≡◌, refl, sym, ap, ◌∙◌}
use mathlib.Core.Bool.{Bool, true, false, ◌||◌, or-true, false≢true}
use lib.Dec.{eqb}
use borrow.Author.Tests.{eqb-true, eqb-false, eq-eqb}
use Rattle.blocks.specs.Blocks.{power_below}

-- ---- a divisor of a power of two

divides_one : (a b : ℕ) → a * b ≡ 1 → a ≡ 1
divides_one a b h = go (ℕ_discrete b 0) (ℕ_discrete a 0)
  where
    go : Dec (b ≡ 0) → Dec (a ≡ 0) → a ≡ 1
    go (yes z) d = absurd (omega (arith, rw (z, mul-zero) at h))
    go (no z) (yes y) = absurd (omega (arith, rw (y, zero-mul) at h))
    go (no z) (no y) = omega (arith, le-mul_of_pos_right {m = b} a (omega arith))

-- a is the power 2 ^ j for a j up to k
abbrev pub PowerTo : ℕ → ℕ → Type 0
PowerTo k a = (j : ℕ) × (j ≤ k) × (a ≡ 2 ^ j)

pub divides_power : (k a b : ℕ) → a * b ≡ 2 ^ k → PowerTo k a
divides_power zero a b h = (0, omega arith, divides_one a b h)
divides_power (suc k) a b h = go (divides_power k) (ℕ_discrete (a % 2) 0) (ℕ_discrete (b % 2) 0)
  where
    go : ((c d : ℕ) → c * d ≡ 2 ^ k → PowerTo k c) → Dec (a % 2 ≡ 0) → Dec (b % 2 ≡ 0) → PowerTo (suc k) a
    go ih (yes e) d =
        let x : a ≡ 2 * (a / 2) = omega arith in
        let y : 2 * (a / 2 * b) ≡ 2 * 2 ^ k = sym (mul_assoc 2 (a / 2) b) ∙ ap (λ (c : ℕ). c * b) (sym x) ∙ h ∙ pow-succ' 2 k in
        let p = ih (a / 2) b (eq_of_mul-eq-mul_left 2 (omega arith) (a / 2 * b) (2 ^ k) y) in
        (suc p.0, omega (arith, p.1), x ∙ ap (λ (c : ℕ). 2 * c) p.2 ∙ sym (pow-succ' 2 p.0))
    go ih (no e) (yes d) =
        let x : b ≡ b / 2 * 2 = omega arith in
        let y : a * (b / 2) * 2 ≡ 2 ^ k * 2 = mul_assoc a (b / 2) 2 ∙ ap (λ (c : ℕ). a * c) (sym x) ∙ h ∙ pow-suc 2 k in
        let p = ih a (b / 2) (eq_of_mul-eq-mul_right 2 (omega arith) (a * (b / 2)) (2 ^ k) y) in
        (p.0, omega (arith, p.1), p.2)
    go ih (no e) (no d) =
        let x : a ≡ 2 * (a / 2) + 1 = omega arith in
        let y : a * b ≡ 2 * (a / 2 * b) + b = ap (λ (c : ℕ). c * b) x ∙ add-mul (2 * (a / 2)) 1 b ∙ rw (one-mul, mul_assoc) in
        absurd (omega (arith, h, pow-succ' 2 k))

-- ---- the powers below 2 ^ n

pub power_in : (n k a : ℕ) → k < n → a ≡ 2 ^ k → power_below n a ≡ true
unfolding power_below
power_in zero k a h e = absurd (omega arith)
power_in (suc n) k a h e = go (ℕ_discrete k n) (power_in n k a)
  where
    go : Dec (k ≡ n) → (k < n → a ≡ 2 ^ k → power_below n a ≡ true) → power_below (suc n) a ≡ true
    go (yes x) ih = rw (eq-eqb a (2 ^ n) (e ∙ ap (λ (j : ℕ). 2 ^ j) x))
    go (no x) ih = rw (ih (omega arith) e) (or-true (eqb a (2 ^ n)))

pub power_out : (n a : ℕ) → power_below n a ≡ true → (k : ℕ) × (k < n) × (a ≡ 2 ^ k)
unfolding power_below
power_out zero a h = absurd (false≢true h)
power_out (suc n) a h = go (eqb a (2 ^ n)) refl (power_out n a) h
  where
    go : (t : Bool) → eqb a (2 ^ n) ≡ t → (power_below n a ≡ true → (k : ℕ) × (k < n) × (a ≡ 2 ^ k)) → (t || power_below n a) ≡ true
        → (k : ℕ) × (k < suc n) × (a ≡ 2 ^ k)
    go true e ih h = (n, omega arith, eqb-true a (2 ^ n) e)
    go false e ih h =
        let p = ih h in
        (p.0, omega (arith, p.1), p.2)

-- ---- the test that the code makes

power_rest : (n k : ℕ) → k ≤ n → 2 ^ n % 2 ^ k ≡ 0
power_rest n k h =
    let e : n ≡ k + (n - k) = omega arith in
    ap (λ (j : ℕ). 2 ^ j % 2 ^ k) e ∙ rw (pow-add 2 k (n - k)) (mul-mod_right (2 ^ k) (2 ^ (n - k)))

-- a number divides 2 ^ n exactly when it is a power of two below 2 ^ (n + 1)
pub power_test : (n a : ℕ) → eqb (2 ^ n % a) 0 ≡ power_below (suc n) a
power_test n a = go (eqb (2 ^ n % a) 0) refl (power_below (suc n) a) refl
  where
    go : (t : Bool) → eqb (2 ^ n % a) 0 ≡ t → (u : Bool) → power_below (suc n) a ≡ u → t ≡ u
    go true e true f = refl
    go true e false f =
        let p = divides_power n a (2 ^ n / a) (omega (arith, div-add-mod (2 ^ n) a, eqb-true (2 ^ n % a) 0 e)) in
        sym (power_in (suc n) p.0 a (omega (arith, p.1)) p.2) ∙ f
    go false e true f =
        let p = power_out (suc n) a f in
        absurd (eqb-false (2 ^ n % a) 0 e (ap (λ (x : ℕ). 2 ^ n % x) p.2 ∙ power_rest n p.0 (omega (arith, p.1))))
    go false e false f = refl
