-- What a test tells, put together as the test is. Assumes nothing.
use Prim.Native.Nat.{ℕ, ◌<◌}
use mathlib.Core.Path.{◌≡◌, refl}
use mathlib.Core.Logic.{◌↔◌, ◌≢◌, ◌⊎◌, inl, inr, ⊎_elim}
use mathlib.Core.Bool.{Bool, true, false, ◌&&◌, ◌||◌, not, false≢true}
use lib.Dec.{eqb, ltb}
use borrow.Author.Tests.{ltb-true, lt-ltb, eqb-true, eq-eqb}

-- the test is true exactly where A holds
abbrev pub Tells : Bool → Type 0 → Type 0
Tells t A = (t ≡ true) ↔ A

pub below_tells : (a b : ℕ) → Tells (ltb a b) (a < b)
below_tells a b = (ltb-true a b, lt-ltb a b)

pub equal_tells : (a b : ℕ) → Tells (eqb a b) (a ≡ b)
equal_tells a b = (eqb-true a b, eq-eqb a b)

pub not_tells : {A : Type 0} (t : Bool) → Tells t A → Tells (not t) (A → ⊥)
not_tells true h = (λ e a. false≢true e, λ f. absurd (f (h.0 refl)))
not_tells false h = (λ e a. false≢true (h.1 a), λ f. refl)

pub unequal_tells : (a b : ℕ) → Tells (not (eqb a b)) (a ≢ b)
unequal_tells a b = not_tells (eqb a b) (equal_tells a b)

module _ {A B : Type 0} where
  pub and_tells : (a b : Bool) → Tells a A → Tells b B → Tells (a && b) (A × B)
  and_tells true b h k = (λ e. (h.0 refl, k.0 e), λ p. k.1 p.1)
  and_tells false b h k = (λ e. absurd (false≢true e), λ p. h.1 p.0)

  pub or_tells : (a b : Bool) → Tells a A → Tells b B → Tells (a || b) (A ⊎ B)
  or_tells true b h k = (λ e. inl (h.0 refl), λ p. refl)
  or_tells false b h k = (λ e. inr (k.0 e), ⊎_elim (λ p. absurd (false≢true (h.1 p))) k.1)

  -- neither of two, and not both
  pub neither_tells : (a b : Bool) → Tells (not a) A → Tells (not b) B → Tells (not (a || b)) (A × B)
  neither_tells true b h k = (λ e. absurd (false≢true e), λ p. h.1 p.0)
  neither_tells false b h k = (λ e. (h.0 refl, k.0 e), λ p. k.1 p.1)

  pub not_both_tells : (a b : Bool) → Tells (not a) A → Tells (not b) B → Tells (not (a && b)) (A ⊎ B)
  not_both_tells true b h k = (λ e. inr (k.0 e), ⊎_elim (λ p. absurd (false≢true (h.1 p))) k.1)
  not_both_tells false b h k = (λ e. inl (h.0 refl), λ p. refl)

-- a test that tells what is not so is false
pub tells_false : {A : Type 0} (t : Bool) → Tells t A → (A → ⊥) → t ≡ false
tells_false true h f = absurd (f (h.0 refl))
tells_false false h f = refl

-- what is not otherwise is so, where a test tells it
pub tells_stable : {A : Type 0} (t : Bool) → Tells t A → ((A → ⊥) → ⊥) → A
tells_stable true h f = h.0 refl
tells_stable false h f = absurd (f (λ a. false≢true (h.1 a)))
