-- What one step of the loop that reads a decimal number does. Assumes nothing.
use mathlib.Core.Path.{◌≡◌, refl}
use mathlib.Core.Bool.{Bool, true, false, ◌&&◌, and-eq-true_iff, false≢true}
use mathlib.Core.List.{List, [], ◌∷◌}
use Prim.Native.Nat.{ℕ, zero, suc, ◌+◌, ◌*◌, ◌≤◌, ◌<◌, min}
use native.Mathlib.Omega.{arith}
use borrow.Author.Tests.{ltb-true, lt-ltb, leb-true}
use lib.Dec.{ltb, leb}
use lib.ListN.{length, drop}
use Rattle.codec.specs.Decimal.{digit_of}
use Rattle.codec.specs.Scan.{digit_at, more_digits, decimal_at}
use Rattle.std.specs.Prelude.{Err}
use Rattle.codec.proofs.Laws.Scan.{drop_tail}

module _ (least most i : ℕ) (text : List ℕ) where
  -- the test of a first digit
  abbrev opens : ℕ → Bool
  opens d = ltb d 10 && (leb (min 1 least) d && leb d most)

  pub decimal_none : opens (digit_at (drop i text)) ≡ false → decimal_at least most i (drop i text) ≡ Err i
  unfolding decimal_at digit_at
  decimal_none e = go (drop i text) e
    where
      go : (t : List ℕ) → opens (digit_at t) ≡ false → decimal_at least most i t ≡ Err i
      go [] e = refl
      go (b ∷ t) e = rw e

  pub decimal_some : opens (digit_at (drop i text)) ≡ true → decimal_at least most i (drop i text) ≡ more_digits least most (digit_at (drop i text)) (suc i) (drop (suc i) text)
  unfolding decimal_at digit_at
  decimal_some e = go (drop i text) refl e
    where
      go : (t : List ℕ) → drop i text ≡ t → opens (digit_at t) ≡ true → decimal_at least most i t ≡ more_digits least most (digit_at t) (suc i) (drop (suc i) text)
      go [] f e = absurd (false≢true e)
      go (b ∷ t) f e = rw (e, drop_tail i text b t f)

module _ (least most v i : ℕ) (text : List ℕ) where
  -- the test of a further digit
  abbrev extends : ℕ → Bool
  extends d = leb 1 v && leb (v * 10 + d) most

  pub more_none : digit_at (drop i text) < 10 → extends (digit_at (drop i text)) ≡ false → more_digits least most v i (drop i text) ≡ Err i
  unfolding more_digits digit_at
  more_none h e = go (drop i text) h e
    where
      go : (t : List ℕ) → digit_at t < 10 → extends (digit_at t) ≡ false → more_digits least most v i t ≡ Err i
      go [] h e = absurd (omega arith)
      go (b ∷ t) h e = simp (lt-ltb (digit_of b) 10 h, e)

  pub more_some : digit_at (drop i text) < 10 → extends (digit_at (drop i text)) ≡ true
      → more_digits least most v i (drop i text) ≡ more_digits least most (v * 10 + digit_at (drop i text)) (suc i) (drop (suc i) text)
  unfolding more_digits digit_at
  more_some h e = go (drop i text) refl h e
    where
      go : (t : List ℕ) → drop i text ≡ t → digit_at t < 10 → extends (digit_at t) ≡ true → more_digits least most v i t ≡ more_digits least most (v * 10 + digit_at t) (suc i) (drop (suc i) text)
      go [] f h e = absurd (omega arith)
      go (b ∷ t) f h e = simp (lt-ltb (digit_of b) 10 h, e, drop_tail i text b t f)

-- a digit stands inside the text
pub digit_inside : (i : ℕ) (text : List ℕ) → digit_at (drop i text) < 10 → i < length text
unfolding digit_at
digit_inside zero [] h = absurd (omega arith)
digit_inside zero (b ∷ text) h = omega arith
digit_inside (suc i) [] h = absurd (omega arith)
digit_inside (suc i) (b ∷ text) h = omega (arith, digit_inside i text h)

-- what the two tests show
pub opened : (least most d : ℕ) → ltb d 10 && (leb (min 1 least) d && leb d most) ≡ true → (d < 10) × (d ≤ most)
opened least most d e =
    let p = (and-eq-true_iff (ltb d 10) (leb (min 1 least) d && leb d most)).0 e in
    (ltb-true d 10 p.0, leb-true d most ((and-eq-true_iff (leb (min 1 least) d) (leb d most)).0 p.1).1)

pub extended : (most v d : ℕ) → leb 1 v && leb (v * 10 + d) most ≡ true → v * 10 + d ≤ most
extended most v d e = leb-true (v * 10 + d) most ((and-eq-true_iff (leb 1 v) (leb (v * 10 + d) most)).0 e).1
