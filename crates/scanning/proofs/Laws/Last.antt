-- The last record that covers a position. Assumes nothing.
use Rattle.std.proofs.Common.{◌≡◌, ℕ, suc, ◌+◌, ◌-◌, ◌%◌, ◌^◌, ◌<◌, ◌≤◌, Bool, true, false, eqb, ltb, leb, List, sym, refl, zero-le, arith, ltb-false, ltb-true, eqb-true, le-leb}
use native.Mathlib.Decide.{ℕ_discrete, dec_lt}
use borrow.Author.Tests.{eqb-false, lt-leb}
use Rattle.slices.specs.Cover.{covers}
use Rattle.slices.specs.Limits.{chunk}
use Rattle.slices.specs.Passes.{Passes}
use Rattle.slices.specs.Record.{record_at, records, count}
use Rattle.slices.specs.declared.Record.{Record}
use Rattle.slices.proofs.Laws.Cover.{distance_in, distance_out, covers_range}
use Rattle.resolve.specs.Resolved.{OnTop}
use Rattle.resolve.proofs.Laws.Resolved.{cover_at}
use Rattle.scanning.specs.Scan.{Clear, LastBefore}

-- the test of one comparison: the distance of a position behind a record's first, modulo 2 ^ 32, is less than its length
pub test_is : (r : Record) → Passes r → (p d : ℕ) → p < 2 ^ 32 → d < 2 ^ 32 → (d + r.pos) % 2 ^ 32 ≡ p → ltb d r.len ≡ covers r p
test_is r h p d a b e = go (ltb d r.len) refl
  where
    go : (t : Bool) → ltb d r.len ≡ t → t ≡ covers r p
    go true f = sym (distance_in r h p d a b e (ltb-true _ _ f)).0
    go false f = sym (distance_out r h p d a b e (ltb-false _ _ f))

-- the same of emptiness: one less than a record's length, modulo 2 ^ 32, is 2 ^ 31 or more where there is nothing to take it from, and only there
pub empty_is : (len d : ℕ) → len ≤ chunk → d < 2 ^ 32 → (d + 1) % 2 ^ 32 ≡ len → leb 2147483648 d ≡ eqb len 0
unfolding chunk
empty_is len d a b e = go (eqb len 0) refl
  where
    go : (t : Bool) → eqb len 0 ≡ t → leb 2147483648 d ≡ t
    go true f =
        let g = eqb-true len 0 f in
        le-leb 2147483648 d (omega arith)
    go false f =
        let g = eqb-false len 0 f in
        lt-leb 2147483648 d (omega (arith, g))

-- a record covers no position outside its range
pub outside : (r : Record) (q : ℕ) → (r.pos ≤ q → q < r.pos + r.len → ⊥) → covers r q ≡ false
outside r q h = go (covers r q) refl
  where
    go : (t : Bool) → covers r q ≡ t → t ≡ false
    go true e =
        let s = covers_range r q e in
        absurd (h s.0 s.1)
    go false e = refl

-- ---- records that don't cover a position, and the last that does

module _ (bs : List ℕ) (n q : ℕ) where
  pub clear_none : Clear bs n n q
  clear_none j a b = absurd (omega arith)

  pub clear_later : (i k : ℕ) → i ≤ k → Clear bs i n q → Clear bs k n q
  clear_later i k l h j a b = h j (omega arith) b

  pub clear_more : (i : ℕ) → covers (record_at bs i) q ≡ false → Clear bs (i + 1) n q → Clear bs i n q
  clear_more i e h j a b = go (ℕ_discrete j i)
    where
      go : Dec (j ≡ i) → covers (record_at bs j) q ≡ false
      go (yes f) = rw f e
      go (no f) = h j (omega arith) b

  pub last_none : Clear bs 0 n q → LastBefore bs n q 0
  last_none h = record { within = zero-le; covering = λ j e. absurd (omega arith); behind = h }

  pub last_hit : (i : ℕ) → i < n → covers (record_at bs i) q ≡ true → Clear bs (i + 1) n q → LastBefore bs n q (i + 1)
  last_hit i l e h =
      record {
        within = omega arith;
        covering = λ j f. let g : j ≡ i = omega arith in rw g e;
        behind = h;
      }

  -- the records from i on don't cover it either
  pub last_all : (i top : ℕ) → LastBefore bs i q top → i ≤ n → Clear bs i n q → LastBefore bs n q top
  last_all i top t l h = record { within = omega (arith, t.within); covering = t.covering; behind = λ j a b. go j a b (dec_lt j i) }
    where
      go : (j : ℕ) → top ≤ j → j < n → Dec (j < i) → covers (record_at bs j) q ≡ false
      go j a b (yes c) = t.behind j a c
      go j a b (no c) = h j (omega arith) b

-- the last record of all that covers each of the positions from a up to e lies on top of them
module _ (bs : List ℕ) (top a e : ℕ) (l : a < e) (h : (q : ℕ) → a ≤ q → q < e → LastBefore bs (count bs) q top) where
  pub on_top_of : OnTop bs top a e
  unfolding records
  on_top_of =
      record {
        covering = covering;
        cover_is = λ q x y. let t = h q x y in cover_at bs q top (count bs) t.within t.behind t.covering;
      }
    where
      covering : (i : ℕ) → top ≡ suc i → (i < count bs) × ((record_at bs i).pos ≤ a) × (e ≤ (record_at bs i).pos + (record_at bs i).len)
      covering i f =
          let s = h a (omega arith) l in
          let t = h (e - 1) (omega arith) (omega arith) in
          (omega (arith, s.within), (covers_range _ _ (s.covering i f)).0, omega (arith, (covers_range _ _ (t.covering i f)).1))

pub on_top_at : (bs : List ℕ) (top q : ℕ) → LastBefore bs (count bs) q top → OnTop bs top q (q + 1)
on_top_at bs top q t = on_top_of bs top q (q + 1) (omega arith) (λ r x y. let e : r ≡ q = omega arith in rw e t)
