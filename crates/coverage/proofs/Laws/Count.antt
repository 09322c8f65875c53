-- Laws of how many numbers pass a test. Assumes nothing.
use Prim.Native.Nat.{ℕ, zero, suc, ◌+◌, ◌≤◌, ◌<◌}
use native.Mathlib.Omega.{arith}
use native.Mathlib.Decide.{ℕ_discrete, dec_lt}
use mathlib.Core.Path.{◌≡◌, refl, sym, ap, ◌∙◌}
use mathlib.Core.Logic.{◌≢◌}
use mathlib.Core.Bool.{Bool, true, false, ◌&&◌, not, and-true, false≢true}
use lib.Dec.{eqb, leb, ltb}
use borrow.Author.Tests.{lt-ltb, le-ltb, le-leb, lt-leb, ne_eqb, eqb-false, not-true}
use Rattle.codec.proofs.Laws.Bools.{and_both}
use Rattle.coverage.specs.Inner.{one_if, count_below, spans}

-- ---- a test as a number

pub one_of : (b : Bool) → b ≡ true → one_if b ≡ 1
one_of b e = ap one_if e

pub none_of : (b : Bool) → b ≡ false → one_if b ≡ 0
none_of b e = ap one_if e

pub at_most_one : (b : Bool) → one_if b ≤ 1
at_most_one true = omega arith
at_most_one false = omega arith

-- ---- test by test

module _ (t : ℕ → Bool) where
  pub count_none : (n : ℕ) → ((i : ℕ) → i < n → t i ≡ false) → count_below t n ≡ 0
  unfolding count_below
  count_none zero h = refl
  count_none (suc n) h = omega (arith, count_none n (λ i l. h i (omega arith)), none_of (t n) (h n (omega arith)))

  pub count_grows : (k n : ℕ) → k ≤ n → count_below t k ≤ count_below t n
  unfolding count_below
  count_grows k zero l =
      let e : k ≡ 0 = omega arith in
      rw e (omega arith)
  count_grows k (suc n) l = go (ℕ_discrete k (suc n)) (count_grows k n)
    where
      go : Dec (k ≡ suc n) → (k ≤ n → count_below t k ≤ count_below t n) → count_below t k ≤ count_below t n + one_if (t n)
      go (yes e) f = rw e (omega arith)
      go (no e) f = omega (arith, f (omega arith))

  -- none of those from k on
  pub count_rest : (k n : ℕ) → k ≤ n → ((i : ℕ) → k ≤ i → i < n → t i ≡ false) → count_below t n ≡ count_below t k
  unfolding count_below
  count_rest k zero l h =
      let e : k ≡ 0 = omega arith in
      rw e
  count_rest k (suc n) l h = go (ℕ_discrete k (suc n)) (λ m. count_rest k n m (λ i a b. h i a (omega arith)))
    where
      go : Dec (k ≡ suc n) → (k ≤ n → count_below t n ≡ count_below t k) → count_below t n + one_if (t n) ≡ count_below t k
      go (yes e) f = rw e
      go (no e) f = omega (arith, f (omega arith), none_of (t n) (h n (omega arith) (omega arith)))

-- all of them
pub count_every : (n : ℕ) → count_below (λ (i : ℕ). true) n ≡ n
unfolding count_below
count_every zero = refl
count_every (suc n) = omega (arith, count_every n)

-- what passes one test passes the other
pub count_less : (s t : ℕ → Bool) (n : ℕ) → ((i : ℕ) → i < n → s i ≡ true → t i ≡ true) → count_below s n ≤ count_below t n
unfolding count_below
count_less s t zero h = omega arith
count_less s t (suc n) h = go (s n) refl (count_less s t n (λ i l. h i (omega arith)))
  where
    go : (b : Bool) → s n ≡ b → count_below s n ≤ count_below t n → count_below s n + one_if b ≤ count_below t n + one_if (t n)
    go true e f = omega (arith, one_of (t n) (h n (omega arith) e))
    go false e f = omega arith

pub count_same : (s t : ℕ → Bool) (n : ℕ) → ((i : ℕ) → i < n → s i ≡ t i) → count_below s n ≡ count_below t n
unfolding count_below
count_same s t zero h = refl
count_same s t (suc n) h = omega (arith, count_same s t n (λ i l. h i (omega arith)), ap one_if (h n (omega arith)))

-- each passes u by passing one of two tests
pub count_parts : (s t u : ℕ → Bool) (n : ℕ) → ((i : ℕ) → i < n → one_if (s i) + one_if (t i) ≡ one_if (u i)) → count_below s n + count_below t n ≡ count_below u n
unfolding count_below
count_parts s t u zero h = omega arith
count_parts s t u (suc n) h = omega (arith, count_parts s t u n (λ i l. h i (omega arith)), h n (omega arith))

-- ---- in another order

-- all but v
but : (ℕ → Bool) → ℕ → ℕ → Bool
but t v i = t i && not (eqb i v)

count_but : (t : ℕ → Bool) (v m : ℕ) → count_below t m ≤ suc (count_below (but t v) m)
unfolding count_below but
count_but t v zero = omega arith
count_but t v (suc m) = go (ℕ_discrete m v) (count_but t v m)
  where
    go : Dec (m ≡ v) → count_below t m ≤ suc (count_below (but t v) m) → count_below t m + one_if (t m) ≤ suc (count_below (but t v) m + one_if (but t v m))
    go (yes e) f =
        let s = count_same t (but t v) m (λ i l. rw (ne_eqb i v (λ x. omega arith)) (sym (and-true (t i)))) in
        omega (arith, at_most_one (t m))
    go (no e) f =
        let s : but t v m ≡ t m = rw (ne_eqb m v e) (and-true (t m)) in
        rw s (omega arith)

-- f reaches each number below m that passes the test
count_reached : (t : ℕ → Bool) (f : ℕ → ℕ) (m n : ℕ) → ((i : ℕ) → i < m → t i ≡ true → (k : ℕ) × (k < n) × (f k ≡ i))
    → count_below t m ≤ count_below (λ (k : ℕ). t (f k)) n
unfolding count_below but
count_reached t f m zero h = omega (arith, count_none t m (λ i l. go i l (t i) refl))
  where
    go : (i : ℕ) → i < m → (b : Bool) → t i ≡ b → t i ≡ false
    go i l true e = absurd (omega (arith, (h i l e).1))
    go i l false e = e
count_reached t f m (suc n) h = go (t (f n)) refl (count_reached t f m n) (count_reached (but t (f n)) f m n)
  where
    reach : (i : ℕ) → i < m → t i ≡ true → f n ≢ i → (k : ℕ) × (k < n) × (f k ≡ i)
    reach i l e x =
        let w = h i l e in
        (w.0, less w.0 w.1 w.2, w.2)
      where
        less : (k : ℕ) → k < suc n → f k ≡ i → k < n
        less k a b =
            let y : k ≢ n = λ z. x (ap f (sym z) ∙ b) in
            omega arith

    go : (b : Bool) → t (f n) ≡ b
        → (((i : ℕ) → i < m → t i ≡ true → (k : ℕ) × (k < n) × (f k ≡ i)) → count_below t m ≤ count_below (λ (k : ℕ). t (f k)) n)
        → (((i : ℕ) → i < m → but t (f n) i ≡ true → (k : ℕ) × (k < n) × (f k ≡ i)) → count_below (but t (f n)) m ≤ count_below (λ (k : ℕ). but t (f n) (f k)) n)
        → count_below t m ≤ count_below (λ (k : ℕ). t (f k)) n + one_if b
    go true e a b =
        let c = count_but t (f n) m in
        let d = b (λ i l x. reach i l (and_both (t i) (not (eqb i (f n))) x).0
        (λ y. eqb-false i (f n) (not-true (eqb i (f n)) (and_both (t i) (not (eqb i (f n))) x).1) (sym y))) in
        let g = count_less (λ (k : ℕ). but t (f n) (f k)) (λ (k : ℕ). t (f k)) n (λ k l x. (and_both (t (f k)) (not (eqb (f k) (f n))) x).0) in
        omega arith
    go false e a b = omega (arith, a (λ i l x. reach i l x (λ y. false≢true (sym e ∙ ap t y ∙ x))))

count_all : (t : ℕ → Bool) (n : ℕ) → count_below t n + count_below (λ (i : ℕ). not (t i)) n ≡ n
unfolding count_below
count_all t zero = refl
count_all t (suc n) = go (t n) (count_all t n)
  where
    go : (b : Bool) → count_below t n + count_below (λ (i : ℕ). not (t i)) n ≡ n
        → count_below t n + one_if b + (count_below (λ (i : ℕ). not (t i)) n + one_if (not b)) ≡ suc n
    go true f = omega arith
    go false f = omega arith

-- f puts the numbers below m into another order
pub count_order : (t : ℕ → Bool) (f : ℕ → ℕ) (m : ℕ) → ((i : ℕ) → i < m → (k : ℕ) × (k < m) × (f k ≡ i))
    → count_below (λ (k : ℕ). t (f k)) m ≡ count_below t m
count_order t f m h =
    let a = count_reached t f m m (λ i l x. h i l) in
    let b = count_reached (λ (i : ℕ). not (t i)) f m m (λ i l x. h i l) in
    omega (arith, count_all t m, count_all (λ (k : ℕ). t (f k)) m)

-- ---- one behind the other

pub spans_next : (s l p : ℕ) → one_if (ltb p s) + one_if (spans s l p) ≡ one_if (ltb p (s + l))
unfolding spans
spans_next s l p = go (dec_lt p s)
  where
    go : Dec (p < s) → one_if (ltb p s) + one_if (leb s p && ltb p (s + l)) ≡ one_if (ltb p (s + l))
    go (yes h) = rw (lt-ltb p s h, lt-leb s p h, lt-ltb p (s + l) (omega arith)) (omega arith)
    go (no h) = rw (le-ltb p s (omega arith), le-leb s p (omega arith)) (omega arith)
