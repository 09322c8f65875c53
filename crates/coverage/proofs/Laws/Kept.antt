-- Laws of the keys that are kept where a window is narrowed. Assumes nothing.
use Prim.Native.Nat.{ℕ, suc, ◌+◌, ◌/◌, ◌%◌, ◌≤◌, ◌<◌}
use native.Mathlib.Omega.{arith}
use native.Mathlib.Decide.{ℕ_discrete, dec_lt}
use native.Mathlib.Nat.{add-zero}
use native.Mathlib.Numerals.{add-one}
use mathlib.Core.Path.{◌≡◌, refl, sym, subst, ◌∙◌}
use mathlib.Core.Bool.{Bool, true, false, ◌&&◌, and-false}
use mathlib.Core.List.{List}
use lib.Dec.{ltb}
use lib.ListN.{length, get_or, set}
use lib.Seq.{get_or-set_same, get_or-set_other}
use borrow.Author.Tests.{lt-ltb, le-ltb, ltb-true}
use Rattle.coverage.specs.Inner.{one_if, count_below, above, start_at, len_at, keys_that, Kept, Narrowed}
use Rattle.coverage.proofs.Laws.Count.{count_same}

-- ---- a key is stored

-- those before it are as they were
pub keys_before : (t : ℕ → ℕ → Bool) (keys : List ℕ) (c at key : ℕ) → c ≤ at → keys_that t (set keys at key) c ≡ keys_that t keys c
unfolding keys_that
keys_before t keys c at key l =
    count_same (λ (v : ℕ). t (start_at (set keys at key) v) (len_at (set keys at key) v)) (λ (v : ℕ). t (start_at keys v) (len_at keys v)) c
    (λ v m. rw (get_or-set_other keys at v key 0 (λ x. omega arith)))

-- with it they are one more
pub keys_more : (t : ℕ → ℕ → Bool) (keys : List ℕ) (c key : ℕ) → c < length keys
    → keys_that t (set keys c key) (suc c) ≡ keys_that t keys c + one_if (t (key / above) (key % above))
unfolding keys_that count_below
keys_more t keys c key l = rw (get_or-set_same keys c key 0 l) (omega (arith, keys_before t keys c c key (omega arith)))

-- ---- kept one by one

-- those of the first c keys are kept, and the others stand as they stood
pub record Keeping (old : List ℕ) (c high : ℕ) (keys : List ℕ) (d : ℕ) : Type 0 where
  pub kept : Kept old c high keys d
  pub rest : (v : ℕ) → c ≤ v → get_or keys v 0 ≡ get_or old v 0

pub keeping_none : (old : List ℕ) (high : ℕ) → Keeping old 0 high old 0
unfolding keys_that count_below
keeping_none old high = record { kept = record { fewer = omega arith; same = λ t. refl; each = λ v l. absurd (omega arith) }; rest = λ v _. refl }

module _ (old : List ℕ) (c high : ℕ) (keys : List ℕ) (d : ℕ) (h : Keeping old c high keys d) (l : c < length keys) (key : ℕ) (k : key ≡ get_or keys c 0) where
  old_key : get_or old c 0 ≡ key
  old_key = sym (h.rest c (omega arith)) ∙ sym k

  there : (v : ℕ) → v < d → get_or (set keys d key) v 0 ≡ get_or keys v 0
  there v m = get_or-set_other keys d v key 0 (λ x. omega arith)

  -- the next key of the old ones
  old_more : (t : ℕ → ℕ → Bool) → keys_that t old (suc c) ≡ keys_that t old c + one_if (t (key / above) (key % above))
  unfolding keys_that count_below
  old_more t = rw old_key

  rest_on : (v : ℕ) → suc c ≤ v → get_or (set keys d key) v 0 ≡ get_or old v 0
  rest_on v m = get_or-set_other keys d v key 0 (λ x. omega (arith, h.kept.fewer)) ∙ h.rest v (omega arith)

  -- it is kept
  keep_it : ltb (key / above) high ≡ true → Kept old (suc c) high (set keys d key) (suc d)
  keep_it e =
      let room : d < length keys = omega (arith, h.kept.fewer) in
      let here = get_or-set_same keys d key 0 room in
      record {
        fewer = omega (arith, h.kept.fewer);
        same = λ t.
            rw (keys_more t keys d key room, old_more (λ (s l : ℕ). ltb s high && t s l), e) (omega (arith, h.kept.same t));
        each = λ v m. each v m (ℕ_discrete v d) here;
      }
    where
      each : (v : ℕ) → v < suc d → Dec (v ≡ d) → get_or (set keys d key) d 0 ≡ key
          → (w : ℕ) × (w < suc c) × (start_at (set keys d key) v < high) × (get_or (set keys d key) v 0 ≡ get_or old w 0)
      each v m (yes x) here = (c, omega arith, rw (x, here) (ltb-true (key / above) high e), rw x here ∙ sym old_key)
      each v m (no x) here =
          let m' : v < d = omega arith in
          let w = h.kept.each v m' in
          (w.0, omega (arith, w.1), rw (there v m') w.2, there v m' ∙ w.3)

  -- or not
  drop_it : ltb (key / above) high ≡ false → Kept old (suc c) high (set keys d key) d
  drop_it e =
      record {
        fewer = omega (arith, h.kept.fewer);
        same = λ t. rw (keys_before t keys d d key (omega arith), old_more (λ (s l : ℕ). ltb s high && t s l), e) (omega (arith, h.kept.same t));
        each = λ v m. let w = h.kept.each v m in (w.0, omega (arith, w.1), rw (there v m) w.2, there v m ∙ w.3);
      }

  pub keeping_more : (b : ℕ) → b ≡ one_if (ltb (key / above) high) → Keeping old (c + 1) high (set keys d key) (d + b)
  keeping_more b e = rw (e, add-one c) (go (ltb (key / above) high) refl)
    where
      go : (t : Bool) → ltb (key / above) high ≡ t → Keeping old (suc c) high (set keys d key) (d + one_if t)
      go true x = rw (add-one d) record { kept = keep_it x; rest = rest_on }
      go false x = rw (add-zero d) record { kept = drop_it x; rest = rest_on }

-- none are left
pub keeping_all : (old : List ℕ) (c high : ℕ) (keys : List ℕ) (d : ℕ) → c ≡ length old → Keeping old c high keys d → Kept old (length old) high keys d
keeping_all old c high keys d e h = subst (λ (x : ℕ). Kept old x high keys d) e h.kept

-- ---- kept again

pub kept_again : (old : List ℕ) (c high : ℕ) (keys : List ℕ) (d edge : ℕ) (new : List ℕ) (e : ℕ) → Kept old c high keys d → Kept keys d edge new e → edge ≤ high → Kept old c edge new e
unfolding keys_that
kept_again old c high keys d edge new e a b l =
    record {
      fewer = omega (arith, a.fewer, b.fewer);
      same = λ t. b.same t ∙ a.same (λ (s l : ℕ). ltb s edge && t s l)
          ∙ count_same (λ (v : ℕ). ltb (start_at old v) high && (ltb (start_at old v) edge && t (start_at old v) (len_at old v)))
          (λ (v : ℕ). ltb (start_at old v) edge && t (start_at old v) (len_at old v)) c
          (λ v _. go (start_at old v) (t (start_at old v) (len_at old v)) (dec_lt (start_at old v) edge));
      each = λ v m.
          let w = b.each v m in
          let x = a.each w.0 w.1 in
          (x.0, x.1, w.2, w.3 ∙ x.3);
    }
  where
    go : (s : ℕ) (t : Bool) → Dec (s < edge) → (ltb s high && (ltb s edge && t)) ≡ (ltb s edge && t)
    go s t (yes x) = rw (lt-ltb s high (omega arith))
    go s t (no x) = rw (le-ltb s edge (omega arith)) (and-false (ltb s high))

-- ---- narrowed

pub narrowed_twice : (old : List ℕ) (low high : ℕ) (keys : List ℕ) (edge d : ℕ) (new : List ℕ) (least e : ℕ) → low < edge → edge ≤ high → least ≡ low + 1 → length keys ≡ length old
    → length keys ≤ d → Kept old (length old) edge keys d → Kept keys (length keys) least new e → Narrowed old low high new least e
narrowed_twice old low high keys edge d new least e a b f g l k m =
    let x : d ≡ length keys = omega (arith, k.fewer) in
    record {
      behind = omega arith;
      inside = omega arith;
      narrowest = λ _. f;
      kept = kept_again old (length old) edge keys (length keys) least new e (subst (λ (y : ℕ). Kept old (length old) edge keys y) x k) m (omega arith);
    }
