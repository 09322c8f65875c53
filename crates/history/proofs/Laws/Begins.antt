-- A list is a beginning of another exactly where the other is that list with more behind it. Comparing goes on byte by byte, or part by part.
-- Assumes nothing.
use Prim.Native.Nat.{ℕ, zero, suc, ◌+◌, ◌-◌, ◌<◌, ◌≤◌}
use native.Mathlib.Omega.{arith}
use native.Mathlib.Numerals.{add-one}
use mathlib.Core.Path.{◌≡◌, refl, sym, ap, subst, ◌∙◌}
use mathlib.Core.Bool.{Bool, true, false, ◌&&◌, false≢true}
use mathlib.Core.Logic.{◌↔◌}
use mathlib.Core.List.{List, [], ◌∷◌, ◌++◌}
use lib.Dec.{eqb}
use lib.ListN.{length, take, drop, get_or, drop_of_length-le, length-drop}
use lib.Seq.{drop-drop}
use borrow.Author.Tests.{eqb-true, eq-eqb}
use Rattle.codec.proofs.Laws.All.{rest_whole}
use Rattle.codec.proofs.Laws.Bools.{and_both}
use Rattle.history.specs.History.{begins, Continues}
use Rattle.history.specs.Inner.{UpTo}

pub and-false : (t : Bool) → (t && false) ≡ false
and-false true = refl
and-false false = refl

pub and-true : (t : Bool) → (t && true) ≡ t
and-true true = refl
and-true false = refl

and_assoc : (a b c : Bool) → (a && (b && c)) ≡ ((a && b) && c)
and_assoc true b c = refl
and_assoc false b c = refl

-- ---- byte by byte

pub begins_step : (xs ys : List ℕ) (i : ℕ) → i < length xs → i < length ys
    → begins (drop i xs) (drop i ys) ≡ (eqb (get_or xs i 0) (get_or ys i 0) && begins (drop (suc i) xs) (drop (suc i) ys))
unfolding begins
begins_step [] ys i h k = absurd (omega arith)
begins_step (x ∷ xs) [] i h k = absurd (omega arith)
begins_step (x ∷ xs) (y ∷ ys) zero h k = refl
begins_step (x ∷ xs) (y ∷ ys) (suc i) h k = begins_step xs ys i (omega arith) (omega arith)

-- nothing is left to compare
pub begins_end : (xs ys : List ℕ) (i : ℕ) → length xs ≤ i → begins (drop i xs) ys ≡ true
unfolding begins
begins_end xs ys i h = rw (drop_of_length-le xs h)

-- "no bytes differed so far" and what is still to be compared make up the whole
module _ (xs ys : List ℕ) (d i : ℕ) (inv : begins xs ys ≡ (eqb d 0 && begins (drop i xs) (drop i ys))) where
  pub compared_more : i < length xs → i < length ys → (e : ℕ) → eqb e 0 ≡ (eqb d 0 && eqb (get_or xs i 0) (get_or ys i 0))
      → begins xs ys ≡ (eqb e 0 && begins (drop (i + 1) xs) (drop (i + 1) ys))
  compared_more h k e q =
      inv
      ∙ ap (λ (t : Bool). eqb d 0 && t) (begins_step xs ys i h k)
      ∙ and_assoc (eqb d 0) (eqb (get_or xs i 0) (get_or ys i 0)) (begins (drop (suc i) xs) (drop (suc i) ys))
      ∙ rw (add-one, q)

  pub compared_all : length xs ≤ i → eqb d 0 ≡ begins xs ys
  compared_all h = sym (inv ∙ ap (λ (t : Bool). eqb d 0 && t) (begins_end xs (drop i ys) i h) ∙ and-true (eqb d 0))

-- ---- part by part

pub begins_longer : (xs ys : List ℕ) → length ys < length xs → begins xs ys ≡ false
unfolding begins
begins_longer [] ys h = absurd (omega arith)
begins_longer (x ∷ xs) [] h = refl
begins_longer (x ∷ xs) (y ∷ ys) h = rw (begins_longer xs ys (omega arith)) (and-false (eqb x y))

pub begins_cut : (k : ℕ) (xs ys : List ℕ) → k ≤ length ys → begins xs ys ≡ (begins (take k xs) ys && begins (drop k xs) (drop k ys))
unfolding begins
begins_cut zero xs ys h = refl
begins_cut (suc k) [] ys h = refl
begins_cut (suc k) (x ∷ xs) [] h = absurd (omega arith)
begins_cut (suc k) (x ∷ xs) (y ∷ ys) h =
    ap (λ (t : Bool). eqb x y && t) (begins_cut k xs ys (omega arith))
    ∙ and_assoc (eqb x y) (begins (take k xs) ys) (begins (drop k xs) (drop k ys))

-- a part that was compared, from i up to j
pub part_up_to : (xs ys : List ℕ) (i j : ℕ) → i ≤ j → j ≤ length xs → length xs ≤ length ys → (t : Bool)
    → t ≡ begins (take (j - i) (drop i xs)) (take (length ys - i) (drop i ys)) → UpTo xs ys i j t
part_up_to xs ys i j h k l t same =
    let e : i + (j - i) ≡ j = omega arith in
    let s : t ≡ begins (take (j - i) (drop i xs)) (drop i ys) = rw rest_whole at same in
    begins_cut (j - i) (drop i xs) (drop i ys) (rw length-drop (omega arith)) ∙ simp (drop-drop, e, s)

-- the same up to i, and then up to j; or they differ somewhere
module _ (xs ys : List ℕ) (g i j : ℕ) (t : Bool) (a : UpTo xs ys g i true) (b : UpTo xs ys i j t) where
  pub up_to_more : t ≡ true → UpTo xs ys g j true
  up_to_more e = a ∙ b ∙ rw e

  pub up_to_differs : t ≡ false → begins (drop g xs) (drop g ys) ≡ false
  up_to_differs e = a ∙ b ∙ rw e

-- ---- what it means

pub begins_rest : (xs ys : List ℕ) → begins xs ys ≡ true → xs ++ drop (length xs) ys ≡ ys
unfolding begins
begins_rest [] ys h = refl
begins_rest (x ∷ xs) [] h = absurd (false≢true h)
begins_rest (x ∷ xs) (y ∷ ys) h =
    let b = and_both (eqb x y) (begins xs ys) h in
    let e = eqb-true x y b.0 in
    let t = begins_rest xs ys b.1 in
    cc

begins-append : (xs rest : List ℕ) → begins xs (xs ++ rest) ≡ true
unfolding begins
begins-append [] rest = refl
begins-append (x ∷ xs) rest = rw (eq-eqb x x refl, begins-append xs rest)

pub begins_exactly : (xs ys : List ℕ) → (begins xs ys ≡ true) ↔ Continues xs ys
begins_exactly xs ys =
    ((λ h. record { rest = drop (length xs) ys; whole = begins_rest xs ys h }), (λ c. subst (λ (zs : List ℕ). begins xs zs ≡ true) c.whole (begins-append xs c.rest)))
