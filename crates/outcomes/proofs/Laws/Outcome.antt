-- Laws of outcomes: each refusal is given exactly in its case. Assumes nothing.
use Prim.Native.Nat.{ℕ, ◌<◌, ◌≤◌}
use mathlib.Core.Path.{◌≡◌, refl, sym, ap, ◌∙◌}
use mathlib.Core.Bool.{Bool, true, false, cond}
use mathlib.Core.Logic.{◌↔◌}
use mathlib.Core.List.{List, [], ◌∷◌, ◌++◌}
use native.Mathlib.Omega.{arith}
use lib.ListN.{length}
use borrow.Author.Tests.{lt-ltb, le-ltb, ltb-false}
use lib.Dec.{ltb}
use Rattle.outcomes.specs.Numbers.{short_buffer}
use Rattle.outcomes.specs.Outcome.{OutcomeOf, refused, done, RowOf, first_of, NoneHolds, Given, Outcome, Row, refusal, row, too_short, delivered}

-- ---- the first row that holds

pub first_of-append : {R A : Type 0} (xs ys : List (RowOf R)) (o : OutcomeOf R A) → first_of (xs ++ ys) o ≡ first_of xs (first_of ys o)
unfolding first_of
first_of-append [] ys o = refl
first_of-append (r ∷ xs) ys o = ap (cond r.test (refused r.gives)) (first_of-append xs ys o)

pub none_passes : {R A : Type 0} (rows : List (RowOf R)) (o : OutcomeOf R A) → NoneHolds rows → first_of rows o ≡ o
unfolding first_of
none_passes [] o h = refl
none_passes (r ∷ rows) o h = rw h.0 (none_passes rows o h.1)

-- a refusal is given exactly where its row holds and no row before it does
module _ {R A : Type 0} (a : A) where
  first_given : (rows : List (RowOf R)) (r : R) → first_of rows (done a) ≡ refused r → Given rows r
  unfolding first_of
  first_given [] r h = let z : ◌≡◌ {A = ℕ} 0 1 = cc in absurd (omega arith)
  first_given (x ∷ rows) r h = go x.test refl (first_given rows r) h
    where
      go : (t : Bool) → x.test ≡ t → (first_of rows (done a) ≡ refused r → Given rows r)
          → cond t (refused x.gives) (first_of rows (done a)) ≡ refused r → Given (x ∷ rows) r
      go true e ih h =
          let g : x.gives ≡ r = cc in
          record { before = []; after = rows; stands = λ i. record { test = e i; gives = g i } ∷ rows; none = tt }
      go false e ih h =
          let g = ih h in
          record { before = x ∷ g.before; after = g.after; stands = ap (λ (l : List (RowOf R)). x ∷ l) g.stands; none = (e, g.none) }

  given_first : (rows : List (RowOf R)) (r : R) → Given rows r → first_of rows (done a) ≡ refused r
  unfolding first_of
  given_first rows r g =
      ap (λ (l : List (RowOf R)). first_of l (done a)) g.stands
      ∙ first_of-append g.before (record { test = true; gives = r } ∷ g.after) (done a)
      ∙ none_passes g.before (refused r) g.none

  pub refused_exactly : (rows : List (RowOf R)) (r : R) → (first_of rows (done a) ≡ refused r) ↔ Given rows r
  refused_exactly rows r = (first_given rows r, given_first rows r)

  -- no row holds where a call is done, whatever it has done
  pub done_none : (rows : List (RowOf R)) (b : A) → first_of rows (done a) ≡ done b → NoneHolds rows
  unfolding first_of
  done_none [] b h = tt
  done_none (x ∷ rows) b h = go x.test refl (done_none rows b) h
    where
      go : (t : Bool) → x.test ≡ t → (first_of rows (done a) ≡ done b → NoneHolds rows)
          → cond t (refused x.gives) (first_of rows (done a)) ≡ done b → NoneHolds (x ∷ rows)
      go true e ih h = let z : ◌≡◌ {A = ℕ} 0 1 = cc in absurd (omega arith)
      go false e ih h = (e, ih h)

  -- a call is done exactly where no row holds
  pub answered_exactly : (rows : List (RowOf R)) → (first_of rows (done a) ≡ done a) ↔ NoneHolds rows
  answered_exactly rows = (done_none rows a, none_passes rows (done a))

  -- what is done is what stands behind the table
  pub done_is : (rows : List (RowOf R)) (b : A) → first_of rows (done a) ≡ done b → b ≡ a
  done_is rows b h =
      let e : ◌≡◌ {A = OutcomeOf R A} (done a) (done b) = sym (none_passes rows (done a) (done_none rows b h)) ∙ h in
      cc

  -- a table that refuses, refuses whatever follows; one that does not, lets it through
  pub stops : {B : Type 0} (rows : List (RowOf R)) (o : OutcomeOf R B) (r : R) → first_of rows (done a) ≡ refused r → first_of rows o ≡ refused r
  unfolding first_of
  stops [] o r h = let z : ◌≡◌ {A = ℕ} 0 1 = cc in absurd (omega arith)
  stops (x ∷ rows) o r h = go x.test (stops rows o r) h
    where
      go : (t : Bool) → (first_of rows (done a) ≡ refused r → first_of rows o ≡ refused r)
          → cond t (refused x.gives) (first_of rows (done a)) ≡ refused r → cond t (refused x.gives) (first_of rows o) ≡ refused r
      go true ih h = let g : x.gives ≡ r = cc in cc
      go false ih h = ih h

-- ---- one row

module _ {A : Type 0} (t : Bool) (n p : ℕ) (o : Outcome A) where
  pub row_holds : (rows : List Row) → t ≡ true → first_of (row t n p ∷ rows) o ≡ refused (refusal n p)
  unfolding first_of
  row_holds rows e = rw e

  pub row_passes : (rows : List Row) → t ≡ false → first_of (row t n p ∷ rows) o ≡ first_of rows o
  unfolding first_of
  row_passes rows e = rw e

-- ---- the room of a buffer

-- too short a buffer is refusal 12; else only what follows counts
module _ {A : Type 0} (bs : List ℕ) (room : ℕ) (o : Outcome A) (rows : List Row) where
  pub short_holds : room < length bs → first_of (too_short bs room ∷ rows) o ≡ refused (refusal short_buffer 0)
  short_holds h = row_holds _ _ _ o rows (lt-ltb room (length bs) h)

  pub short_passes : length bs ≤ room → first_of (too_short bs room ∷ rows) o ≡ first_of rows o
  short_passes h = row_passes _ _ _ o rows (le-ltb room (length bs) h)

pub short_refused : (bs : List ℕ) (room : ℕ) → room < length bs → delivered bs room ≡ refused (refusal short_buffer 0)
short_refused bs room h = short_holds bs room (done bs) [] h

pub short_done : (bs : List ℕ) (room : ℕ) → length bs ≤ room → delivered bs room ≡ done bs
unfolding first_of
short_done bs room h = short_passes bs room (done bs) [] h

-- a table that ends with refusal 12 lets through only what the buffer has room for
pub done_fits : (rows : List Row) (bs cs : List ℕ) (room : ℕ) → first_of (rows ++ (too_short bs room ∷ [])) (done bs) ≡ done cs
    → (cs ≡ bs) × (length cs ≤ room)
done_fits rows bs cs room h =
    let n = done_none bs (rows ++ (too_short bs room ∷ [])) cs h in
    let q = done_is bs (rows ++ (too_short bs room ∷ [])) cs h in
    (q, rw q (ltb-false room (length bs) (last rows n)))
  where
    last : (xs : List Row) → NoneHolds (xs ++ (too_short bs room ∷ [])) → ltb room (length bs) ≡ false
    last [] k = k.0
    last (x ∷ xs) k = last xs k.1
