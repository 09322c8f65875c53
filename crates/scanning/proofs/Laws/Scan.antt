-- From the last record down: the nearest position behind p that a record covers, and what the scan says. Assumes nothing.
use Rattle.std.proofs.Common.{◌≡◌, ℕ, ◌+◌, ◌<◌, ◌≤◌, true, false, eqb, List, sym, ◌∙◌, arith, eqb-true}
use mathlib.Core.Bool.{false≢true}
use borrow.Author.Tests.{eqb-false}
use Rattle.slices.specs.Cover.{covers}
use Rattle.slices.specs.Record.{record_at, count}
use Rattle.slices.proofs.Laws.Cover.{covers_in, covers_before, covers_range}
use Rattle.scanning.specs.Scan.{Scans, Clear, LastBefore, Nearest}
use Rattle.scanning.proofs.Laws.Last.{outside, clear_none, clear_later, clear_more, last_none, last_hit, on_top_of}

-- ---- the nearest position behind p that a record seen covers

pub nearest_start : (bs : List ℕ) (p end top : ℕ) → p < end → Nearest bs (count bs) p end end top
nearest_start bs p end top l =
    record {
      some = l;
      inside = omega arith;
      clear = λ q a b. clear_none bs (count bs) q;
      there = λ m. absurd (omega arith);
    }

-- the nearest stays
keep : (bs : List ℕ) (i k p end at top : ℕ) → Nearest bs i p end at top → ((q : ℕ) → p ≤ q → q < at → Clear bs k (count bs) q) → Nearest bs k p end at top
keep bs i k p end at top h f = record { some = h.some; inside = h.inside; clear = f; there = h.there }

pub nearest_later : (bs : List ℕ) (i k p end at top : ℕ) → i ≤ k → Nearest bs i p end at top → Nearest bs k p end at top
nearest_later bs i k p end at top l h = keep bs i k p end at top h (λ q a b. clear_later bs (count bs) q i k l (h.clear q a b))

-- record i does not cover p, and is seen after those behind it
module _ (bs : List ℕ) (i p end at top : ℕ) (e : covers (record_at bs i) p ≡ false) (h : Nearest bs (i + 1) p end at top) where
  skip : ((q : ℕ) → p ≤ q → q < at → covers (record_at bs i) q ≡ false) → Nearest bs i p end at top
  skip f = keep bs (i + 1) i p end at top h (λ q a b. clear_more bs (count bs) q i (f q a b) (h.clear q a b))

  -- record i begins at p or before it, and does not reach it
  pub nearest_before : (record_at bs i).pos ≤ p → Nearest bs i p end at top
  nearest_before l = skip (λ q a b. outside _ q (λ x y. false≢true (sym e ∙ covers_in (record_at bs i) p l (omega arith))))

  -- record i begins at the nearest position or behind it
  pub nearest_behind : at ≤ (record_at bs i).pos → Nearest bs i p end at top
  nearest_behind l = skip (λ q a b. outside _ q (λ x y. omega arith))

  pub nearest_empty : (len : ℕ) → len ≡ (record_at bs i).len → eqb len 0 ≡ true → Nearest bs i p end at top
  nearest_empty len f l =
      let g = eqb-true len 0 l in
      skip (λ q a b. outside _ q (λ x y. omega arith))

  -- record i begins behind p and before the nearest position
  pub nearest_between : (pos len : ℕ) → pos ≡ (record_at bs i).pos → len ≡ (record_at bs i).len → p < pos → pos < at → eqb len 0 ≡ false → i < count bs
      → Nearest bs i p end pos (i + 1)
  nearest_between pos len f g l m n c =
      let some = eqb-false len 0 n in
      record {
        some = l;
        inside = omega (arith, h.inside);
        clear = λ q a b. clear_more bs (count bs) q i (covers_before (record_at bs i) q (omega arith)) (h.clear q a (omega arith));
        there = λ z. last_hit bs (count bs) pos i c (covers_in (record_at bs i) pos (omega arith) (omega (arith, some))) (h.clear pos (omega arith) m);
      }

-- ---- what the scan says

module _ (bs : List ℕ) (i p end at near : ℕ) (h : Nearest bs i p end at near) where
  scans_near : (top : ℕ) → ((q : ℕ) → p ≤ q → q < at → LastBefore bs (count bs) q top) → Scans bs p end (record { top = top; end = at; before = near })
  scans_near top f =
      record {
        some = h.some;
        inside = h.inside;
        here = on_top_of bs top p at h.some f;
        there = λ l. ((h.there l).within, (h.there l).behind);
      }

-- no record covers p
pub scans_none : (bs : List ℕ) (p end at near : ℕ) → Nearest bs 0 p end at near → Scans bs p end (record { top = 0; end = at; before = near })
scans_none bs p end at near h = scans_near bs 0 p end at near h 0 (λ q a b. last_none bs (count bs) q (h.clear q a b))

-- record i is the last that covers p
module _ (bs : List ℕ) (i p end at near : ℕ) (l : i < count bs) (e : covers (record_at bs i) p ≡ true) (h : Nearest bs (i + 1) p end at near) where
  -- it is the last up to where it ends or a later one begins
  last : (q : ℕ) → p ≤ q → q < at → q < (record_at bs i).pos + (record_at bs i).len → LastBefore bs (count bs) q (i + 1)
  last q a b c =
      let r = covers_range (record_at bs i) p e in
      last_hit bs (count bs) q i l (covers_in (record_at bs i) q (omega (arith, r.0)) c) (h.clear q a b)

  -- a later one begins before it ends, or there
  pub found_near : at ≤ (record_at bs i).pos + (record_at bs i).len → Scans bs p end (record { top = i + 1; end = at; before = near })
  found_near m = scans_near bs (i + 1) p end at near h (i + 1) (λ q a b. last q a b (omega arith))

  -- it ends first, and neither it nor one behind it covers the position there
  pub found_below : (stop : ℕ) → stop ≡ (record_at bs i).pos + (record_at bs i).len → stop < at → Scans bs p end (record { top = i + 1; end = stop; before = i })
  found_below stop f m =
      let r = covers_range (record_at bs i) p e in
      let c = outside (record_at bs i) stop (λ x y. omega arith) in
      record {
        some = omega (arith, r.1);
        inside = omega (arith, h.inside);
        here = on_top_of bs (i + 1) p stop (omega (arith, r.1)) (λ q a b. last q a (omega arith) (omega arith));
        there = λ z. (omega arith, clear_more bs (count bs) stop i c (h.clear stop (omega (arith, r.1)) m));
      }
