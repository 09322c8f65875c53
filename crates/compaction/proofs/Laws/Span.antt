-- The first and the last position that pass a test, and those of a list's cover: outside of them nothing is covered. Assumes nothing.
use Prim.Native.Nat.{ℕ, zero, suc, ◌<◌, ◌≤◌}
use native.Mathlib.Omega.{arith}
use native.Mathlib.Decide.{dec_lt, ℕ_discrete}
use mathlib.Core.Path.{◌≡◌, refl, sym, ap, ◌∙◌}
use mathlib.Core.Bool.{Bool, true, false, cond, not, ◌||◌, true≢false}
use mathlib.Core.List.{List}
use borrow.Author.Tests.{not-true, not-false}
use Rattle.codec.proofs.Laws.Bools.{or_none}
use Rattle.slices.specs.Limits.{chunk}
use Rattle.slices.specs.Cover.{cover, is_nothing}
use Rattle.compaction.specs.Span.{IsFirst, IsLast, any_below, first, last, is_covered, first_covered, last_covered, covers_nothing}
use Rattle.slices.specs.declared.Record.{Record}
use Rattle.slices.specs.declared.Source.{Source}
use Rattle.slices.specs.declared.Source.TheVariants.{Nothing, Zero, Byte}

-- ---- of any test

module _ (t : ℕ → Bool) where
  pub none_below : (n : ℕ) → any_below t n ≡ false → (p : ℕ) → p < n → t p ≡ false
  unfolding any_below
  none_below zero e p h = absurd (omega arith)
  none_below (suc n) e p h =
      let both = or_none (t n) (any_below t n) e in
      elim (ℕ_discrete n p) [ yes q ↦ ap t (sym q) ∙ both.0 | no q ↦ none_below n both.1 p (omega arith) ]

  pub some_below : (n p : ℕ) → p < n → t p ≡ true → any_below t n ≡ true
  some_below n p h e = go (any_below t n) refl
    where
      go : (b : Bool) → any_below t n ≡ b → any_below t n ≡ true
      go true k = k
      go false k = absurd (true≢false (sym e ∙ none_below n k p h))

  pub all_below : (n : ℕ) → ((p : ℕ) → p < n → t p ≡ false) → any_below t n ≡ false
  unfolding any_below
  all_below zero h = refl
  all_below (suc n) h = rw (h n (omega arith), all_below n (λ p l. h p (omega arith)))

  pub first_is : (n : ℕ) → any_below t n ≡ true → IsFirst t n (first t n)
  unfolding any_below first
  first_is zero e = absurd (true≢false (sym e))
  first_is (suc n) e = go (any_below t n) refl e (first_is n)
    where
      go : (b : Bool) → any_below t n ≡ b → (t n || b) ≡ true → (any_below t n ≡ true → IsFirst t n (first t n)) → IsFirst t (suc n) (cond b (first t n) n)
      go true k e ih = let f = ih k in record { inside = omega (arith, f.inside); here = f.here; before = f.before }
      go false k e ih = record { inside = omega arith; here = or_left (t n) e; before = none_below n k }
        where
          or_left : (a : Bool) → (a || false) ≡ true → a ≡ true
          or_left true h = refl
          or_left false h = h

  pub last_is : (n : ℕ) → any_below t n ≡ true → IsLast t n (last t n)
  unfolding any_below last
  last_is zero e = absurd (true≢false (sym e))
  last_is (suc n) e = go (t n) refl e (last_is n)
    where
      go : (b : Bool) → t n ≡ b → (b || any_below t n) ≡ true → (any_below t n ≡ true → IsLast t n (last t n)) → IsLast t (suc n) (cond b n (last t n))
      go true k e ih = record { inside = omega arith; here = k; beyond = λ p a b. absurd (omega arith) }
      go false k e ih =
          let l = ih e in
          record {
            inside = omega (arith, l.inside);
            here = l.here;
            beyond = λ p a b. elim (ℕ_discrete n p) [ yes q ↦ ap t (sym q) ∙ k | no q ↦ l.beyond p a (omega arith) ];
          }

  pub first_unique : (n m k : ℕ) → IsFirst t n m → IsFirst t n k → m ≡ k
  first_unique n m k f g =
      elim (dec_lt m k) [
        | yes a ↦ absurd (true≢false (sym f.here ∙ g.before m a))
        | no a ↦ elim (dec_lt k m) [ yes b ↦ absurd (true≢false (sym g.here ∙ f.before k b)) | no b ↦ omega arith ]
      ]

  pub last_unique : (n m k : ℕ) → IsLast t n m → IsLast t n k → m ≡ k
  last_unique n m k f g =
      elim (dec_lt m k) [
        | yes a ↦ absurd (true≢false (sym g.here ∙ f.beyond k a g.inside))
        | no a ↦ elim (dec_lt k m) [ yes b ↦ absurd (true≢false (sym f.here ∙ g.beyond m b f.inside)) | no b ↦ omega arith ]
      ]

-- ---- of a list's cover

is_nothing_lem : (s : Source) → not (is_nothing s) ≡ false → s ≡ Nothing
unfolding is_nothing
is_nothing_lem Nothing e = refl
is_nothing_lem Zero e = absurd (true≢false e)
is_nothing_lem (Byte i z o) e = absurd (true≢false e)

uncovered : (xs : List Record) (p : ℕ) → is_covered xs p ≡ false → cover xs p ≡ Nothing
unfolding is_covered
uncovered xs p e = is_nothing_lem (cover xs p) e

-- the records cover something: p and q are covered, and before p and after q nothing is
pub record Spans (xs : List Record) : Type 0 where
  pub order : first_covered xs ≤ last_covered xs
  pub top : last_covered xs < chunk
  pub left : (p : ℕ) → p < first_covered xs → cover xs p ≡ Nothing
  pub right : (p : ℕ) → last_covered xs < p → p < chunk → cover xs p ≡ Nothing

pub something_covered : (xs : List Record) → covers_nothing xs ≡ false → any_below (is_covered xs) chunk ≡ true
unfolding covers_nothing
something_covered xs e = not-false (any_below (is_covered xs) chunk) e

pub spans : (xs : List Record) → covers_nothing xs ≡ false → Spans xs
unfolding first_covered last_covered
spans xs e =
    let t = is_covered xs in
    let some = something_covered xs e in
    let f = first_is t chunk some in
    let l = last_is t chunk some in
    record {
      order = elim (dec_lt (last t chunk) (first t chunk)) [
        | yes h ↦ absurd (true≢false (sym l.here ∙ f.before (last t chunk) h))
        | no h ↦ omega arith
      ];
      top = l.inside;
      left = λ p h. uncovered xs p (f.before p h);
      right = λ p a b. uncovered xs p (l.beyond p a b);
    }

pub nothing_covered : (xs : List Record) → covers_nothing xs ≡ true → (p : ℕ) → p < chunk → cover xs p ≡ Nothing
unfolding covers_nothing
nothing_covered xs e p h = uncovered xs p (none_below (is_covered xs) chunk (not-true (any_below (is_covered xs) chunk) e) p h)
