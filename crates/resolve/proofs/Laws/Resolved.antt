-- From the segments of a list's bounds to the list resolved. Assumes nothing.
use Prim.Native.Nat.{ℕ, zero, suc, ◌+◌, ◌-◌, ◌≤◌, ◌<◌, zero-le}
use native.Mathlib.Omega.{arith}
use native.Mathlib.Nat.{add-zero}
use native.Mathlib.Numerals.{add-one}
use native.Mathlib.Decide.{ℕ_discrete, dec_lt}
use mathlib.Core.Path.{◌≡◌, refl, sym, ap, ◌∙◌}
use mathlib.Core.Bool.{true, false}
use mathlib.Core.List.{List}
use lib.ListN.{length, get_or, set}
use lib.Seq.{get_or-set_same, get_or-set_other}
use Rattle.slices.specs.Cover.{cover, covers, given}
use Rattle.slices.specs.Record.{record_at, records, count}
use Rattle.slices.specs.declared.Source.TheVariants.{Nothing}
use Rattle.slices.proofs.Laws.Cover.{covers_in, covers_before, covers_after}
use Rattle.slices.proofs.Laws.Scan.{cover_of, cover_skip, cover_hit, cover_none}
use Rattle.resolve.specs.Resolved.{source_of, OnTop, Resolved, Holds}
use Rattle.resolve.specs.Sweep.{Bounds, Above, Swept}

-- ---- the bounds of the records

pub bounds_start : (bs pos ends : List ℕ) → Bounds bs pos ends 0
bounds_start bs pos ends = record { first = λ i l. absurd (omega arith); end = λ i l. absurd (omega arith) }

module _ (bs pos ends : List ℕ) (i a b : ℕ) (h : Bounds bs pos ends i) (in_pos : i < length pos) (in-ends : i < length ends)
    (ea : a ≡ (record_at bs i).pos) (eb : b ≡ (record_at bs i).pos + (record_at bs i).len) where
  pub bounds_more : Bounds bs (set pos i a) (set ends i b) (i + 1)
  bounds_more = record { first = λ j. first j (ℕ_discrete j i); end = λ j. end j (ℕ_discrete j i) }
    where
      first : (j : ℕ) → Dec (j ≡ i) → j < i + 1 → get_or (set pos i a) j 0 ≡ (record_at bs j).pos
      first j (yes e) l = rw e (get_or-set_same pos i a 0 in_pos ∙ ea)
      first j (no e) l = get_or-set_other pos i j a 0 e ∙ h.first j (omega arith)

      end : (j : ℕ) → Dec (j ≡ i) → j < i + 1 → get_or (set ends i b) j 0 ≡ (record_at bs j).pos + (record_at bs j).len
      end j (yes e) l = rw e (get_or-set_same ends i b 0 in-ends ∙ eb)
      end j (no e) l = get_or-set_other ends i j b 0 e ∙ h.end j (omega arith)

-- ---- the cover by the last record that covers a position

module _ (bs : List ℕ) (p : ℕ) where
  -- records that don't cover it
  pass_over : (t d : ℕ) → ((j : ℕ) → t ≤ j → j < t + d → covers (record_at bs j) p ≡ false) → cover_of bs p (t + d) ≡ cover_of bs p t
  pass_over t zero h = rw add-zero
  pass_over t (suc d) h =
      let e : t + suc d - 1 ≡ t + d = omega arith in
      let f : covers (record_at bs (t + suc d - 1)) p ≡ false = rw e (h (t + d) (omega arith) (omega arith)) in
      cover_skip bs p (t + suc d) (omega arith) f
      ∙ ap (cover_of bs p) e
      ∙ pass_over t d (λ j a b. h j a (omega arith))

  from_top : (t n : ℕ) → t ≤ n → ((j : ℕ) → t ≤ j → j < n → covers (record_at bs j) p ≡ false) → cover_of bs p n ≡ cover_of bs p t
  from_top t n l h =
      let e : t + (n - t) ≡ n = omega arith in
      ap (cover_of bs p) (sym e) ∙ pass_over t (n - t) (λ j a b. h j a (omega arith))

  pub cover_at : (top n : ℕ) → top ≤ n → ((j : ℕ) → top ≤ j → j < n → covers (record_at bs j) p ≡ false)
      → ((i : ℕ) → top ≡ suc i → covers (record_at bs i) p ≡ true) → cover_of bs p n ≡ source_of bs top p
  unfolding source_of
  cover_at zero n l h g = from_top zero n l h ∙ cover_none bs p zero (omega arith)
  cover_at (suc i) n l h g = from_top (suc i) n l h ∙ last i (g i refl)
    where
      last : (i : ℕ) → covers (record_at bs i) p ≡ true → cover_of bs p (suc i) ≡ given (record_at bs i) p
      last i c =
          let e : suc i - 1 ≡ i = omega arith in
          cover_hit bs p (suc i) (omega arith) (rw e c) ∙ ap (λ (k : ℕ). given (record_at bs k) p) e

-- ---- segment by segment

module _ (bs pos ends : List ℕ) (b : Bounds bs pos ends (count bs)) where
  pub on_top : (top a e : ℕ) → Above pos ends (count bs) top a e → OnTop bs top a e
  unfolding records
  on_top top a e s = record { covering = covering; cover_is = cover_is }
    where
      covering : (i : ℕ) → top ≡ suc i → (i < count bs) × ((record_at bs i).pos ≤ a) × (e ≤ (record_at bs i).pos + (record_at bs i).len)
      covering i f =
          let c = s.covering i f in
          (c.0, omega (arith, c.1, b.first i c.0), omega (arith, c.2, b.end i c.0))

      few : top ≤ count bs
      few = go (ℕ_discrete top 0)
        where
          go : Dec (top ≡ 0) → top ≤ count bs
          go (yes f) = omega arith
          go (no f) = omega (arith, (s.covering (top - 1) (omega arith)).0)

      cover_is : (p : ℕ) → a ≤ p → p < e → cover (records bs) p ≡ source_of bs top p
      cover_is p l m = cover_at bs p top (count bs) few not_covered covered
        where
          not_covered : (j : ℕ) → top ≤ j → j < count bs → covers (record_at bs j) p ≡ false
          not_covered j x y = go (dec_lt p (record_at bs j).pos) (dec_lt p ((record_at bs j).pos + (record_at bs j).len))
            where
              go : Dec (p < (record_at bs j).pos) → Dec (p < (record_at bs j).pos + (record_at bs j).len) → covers (record_at bs j) p ≡ false
              go (yes z) w = covers_before (record_at bs j) p z
              go (no z) (no w) = covers_after (record_at bs j) p (omega arith)
              go (no z) (yes w) = absurd (s.clear j p x y l m (omega (arith, b.first j y)) (omega (arith, b.end j y)))

          covered : (i : ℕ) → top ≡ suc i → covers (record_at bs i) p ≡ true
          covered i f =
              let c = covering i f in
              covers_in (record_at bs i) p (omega (arith, c.1)) (omega (arith, c.2))

  pub resolved : (marks tops : List ℕ) (m end : ℕ) → Swept pos ends (count bs) marks tops m end → Resolved bs marks tops m end
  resolved marks tops m end s =
      record {
        starts = s.starts;
        ends = s.at_end;
        rises = s.rises;
        on_top = λ k l. on_top _ _ _ (s.segments k l);
      }

-- ---- a position of a segment

pub resolved_at : (bs marks tops : List ℕ) (m end : ℕ) → Resolved bs marks tops m end → (k p : ℕ) → Holds marks m k p → OnTop bs (get_or tops k 0) p (p + 1)
resolved_at bs marks tops m end r k p h =
    let t = r.on_top k h.inside in
    record {
      covering = λ i e. ((t.covering i e).0, omega (arith, (t.covering i e).1, h.from), omega (arith, (t.covering i e).2, h.to));
      cover_is = λ q a b. t.cover_is q (omega (arith, h.from)) (omega (arith, h.to));
    }

-- the first segment holds the first position
pub resolved_front : (bs marks tops : List ℕ) (m end : ℕ) → Resolved bs marks tops m end → 0 < end → Holds marks m 0 0
resolved_front bs marks tops m end r l = go (ℕ_discrete m 0)
  where
    go : Dec (m ≡ 0) → Holds marks m 0 0
    go (yes e) = absurd (omega (arith, r.starts, r.ends, ap (λ (i : ℕ). get_or marks i 0) e))
    go (no e) =
        let n : 0 < m = omega arith in
        record { inside = n; from = omega (arith, r.starts); to = omega (arith, r.rises 0 n, r.starts) }

-- a segment that ends before the last position is followed by the one that starts there
-- the next segment holds the position where segment k ends
pub holds_next : (marks : List ℕ) (m k e : ℕ) → k < m → get_or marks (k + 1) 0 ≤ e → e ≤ get_or marks (k + 1) 0 → e < get_or marks m 0
    → ((j : ℕ) → j < m → get_or marks j 0 < get_or marks (j + 1) 0) → Holds marks m (k + 1) e
holds_next marks m k e l f g h rises = go (dec_lt (k + 1) m)
  where
    go : Dec (k + 1 < m) → Holds marks m (k + 1) e
    go (yes i) = record { inside = i; from = f; to = omega (arith, rises (k + 1) i) }
    go (no i) =
        let q : k + 1 ≡ m = omega arith in
        absurd (omega (arith, ap (λ (x : ℕ). get_or marks x 0) q))

pub resolved_next : (bs marks tops : List ℕ) (m end : ℕ) → Resolved bs marks tops m end → (k e : ℕ) → k < m → e ≡ get_or marks (k + 1) 0 → e < end → Holds marks m (k + 1) e
resolved_next bs marks tops m end r k e l f g = holds_next marks m k e l (omega arith) (omega arith) (omega (arith, r.ends)) r.rises

module _ (bs marks tops : List ℕ) (m end : ℕ) (r : Resolved bs marks tops m end) where
  -- some segment holds each position
  pub resolved_some : (p : ℕ) → p < end → (k : ℕ) × Holds marks m k p
  resolved_some p l = up_to m (omega arith) (omega (arith, r.ends))
    where
      up_to : (j : ℕ) → j ≤ m → p < get_or marks j 0 → (k : ℕ) × Holds marks m k p
      up_to zero h g = absurd (omega (arith, r.starts))
      up_to (suc j) h g = go (dec_lt p (get_or marks j 0)) (up_to j (omega arith))
        where
          go : Dec (p < get_or marks j 0) → (p < get_or marks j 0 → (k : ℕ) × Holds marks m k p) → (k : ℕ) × Holds marks m k p
          go (yes q) ih = ih q
          go (no q) ih = (j, record { inside = omega arith; from = omega arith; to = rw (add-one j) g })

  -- there are no more segments than positions
  pub resolved_few : m ≤ end
  resolved_few = omega (arith, up_to m (omega arith), r.ends)
    where
      up_to : (j : ℕ) → j ≤ m → j ≤ get_or marks j 0
      up_to zero h = zero-le
      up_to (suc j) h = omega (arith, up_to j (omega arith), rw (add-one j) at (r.rises j (omega arith)))

pub source_zero : (bs : List ℕ) (top p : ℕ) → OnTop bs top p (p + 1) → top ≡ 0 → cover (records bs) p ≡ Nothing
unfolding source_of
source_zero bs top p t e = t.cover_is p (omega arith) (omega arith) ∙ rw e

pub source_some : (bs : List ℕ) (top p i : ℕ) → OnTop bs top p (p + 1) → top ≡ suc i → cover (records bs) p ≡ given (record_at bs i) p
unfolding source_of
source_some bs top p i t e = t.cover_is p (omega arith) (omega arith) ∙ rw e
