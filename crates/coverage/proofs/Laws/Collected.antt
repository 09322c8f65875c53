-- Laws of the keys of the pieces that begin in a window. Assumes nothing.
use Prim.Native.Nat.{ℕ, suc, ◌+◌, ◌*◌, ◌/◌, ◌%◌, ◌≤◌, ◌<◌}
use native.Mathlib.Omega.{arith}
use native.Mathlib.Decide.{ℕ_discrete, dec_lt}
use native.Mathlib.Numerals.{add-one}
use mathlib.Core.Path.{◌≡◌, refl, sym, subst, ◌∙◌}
use mathlib.Core.Bool.{Bool, true, false, ◌&&◌, and-true, and-false}
use mathlib.Core.List.{List}
use lib.Dec.{leb, ltb}
use lib.ListN.{length, get_or, set}
use lib.Seq.{get_or-set_same, get_or-set_other}
use borrow.Author.Tests.{lt-ltb, le-ltb, le-leb, lt-leb}
use Rattle.codec.specs.Fixed.{number_at}
use Rattle.plans.specs.Piece.{piece_size, decode_piece, run_of, decode_run}
use Rattle.coverage.specs.Held.{holds}
use Rattle.coverage.specs.Inner.{run_at, count_below, spans, between, beginning, held_in, above, key_of, start_at, keyed, keys_that, begun_that, Collected, Kept, Narrowed}
use Rattle.coverage.proofs.Laws.Count.{count_same, count_every}
use Rattle.coverage.proofs.Laws.Kept.{keys_more}

-- ---- a place and a window

pub in_window : (low high s : ℕ) → low ≤ s → s < high → between low high s ≡ true
unfolding between
in_window low high s a b = rw (le-leb low s a, lt-ltb s high b)

pub before_window : (low high s : ℕ) → s < low → between low high s ≡ false
unfolding between
before_window low high s a = rw (lt-leb low s a)

pub behind_window : (low high s : ℕ) → high ≤ s → between low high s ≡ false
unfolding between
behind_window low high s a = rw (le-ltb s high a) (and-false (leb low s))

-- ---- no piece yet

pub collected_none : (plan : List ℕ) (low high : ℕ) (keys : List ℕ) → Collected plan low high 0 keys 0
unfolding keys_that begun_that count_below
collected_none plan low high keys = record { same = λ t. refl; each = λ v l. absurd (omega arith) }

-- ---- how many there are, and how many hold a place

module _ (plan : List ℕ) (low high k : ℕ) (keys : List ℕ) (c : ℕ) (h : Collected plan low high k keys c) where
  pub collected_many : c ≡ beginning plan low high k
  unfolding keys_that begun_that beginning
  collected_many =
      sym (count_every c) ∙ h.same (λ (s l : ℕ). true)
      ∙ count_same (λ (i : ℕ). between low high (run_at plan i).start && true) (λ (i : ℕ). between low high (run_at plan i).start) k
      (λ i _. and-true (between low high (run_at plan i).start))

  pub collected_held : (p : ℕ) → keyed keys c p ≡ held_in plan low high k p
  unfolding keys_that begun_that keyed held_in holds spans
  collected_held p = h.same (λ (s l : ℕ). spans s l p)

  -- ---- in a window that ends earlier

  collected_narrow : (new : List ℕ) (edge d : ℕ) → edge ≤ high → Kept keys c edge new d → Collected plan low edge k new d
  unfolding begun_that between
  collected_narrow new edge d l x =
      record {
        same = λ t. x.same t ∙ h.same (λ (s n : ℕ). ltb s edge && t s n)
            ∙ count_same (λ (i : ℕ). between low high (run_at plan i).start && (ltb (run_at plan i).start edge && t (run_at plan i).start (run_at plan i).len))
            (λ (i : ℕ). between low edge (run_at plan i).start && t (run_at plan i).start (run_at plan i).len) k
            (λ i _. go (run_at plan i).start (t (run_at plan i).start (run_at plan i).len) (dec_lt (run_at plan i).start edge));
        each = λ v m.
            let w = x.each v m in
            let y = h.each w.0 w.1 in
            (y.0, y.1, w.2, w.3 ∙ y.3);
      }
    where
      go : (s : ℕ) (t : Bool) → Dec (s < edge) → (between low high s && (ltb s edge && t)) ≡ (between low edge s && t)
      go s t (yes y) = rw (lt-ltb s edge y, lt-ltb s high (omega arith))
      go s t (no y) = rw (le-ltb s edge (omega arith), and-false (leb low s)) (and-false (leb low s && ltb s high))

  -- which is how it is narrowed where there is no room
  pub collected_narrowed : (new : List ℕ) (edge d : ℕ) → c ≤ length keys → length keys ≤ c → Narrowed keys low high new edge d → Collected plan low edge k new d
  collected_narrowed new edge d a b n =
      let e : length keys ≡ c = omega arith in
      collected_narrow new edge d n.inside (subst (λ (x : ℕ). Kept keys x edge new d) e n.kept)

-- ---- one piece more

module _ (plan : List ℕ) (low high i : ℕ) (keys : List ℕ) (c s : ℕ) (h : Collected plan low high i keys c) (e : s ≡ number_at plan (i * piece_size + 6) 4) where
  start_is : (run_at plan i).start ≡ s
  unfolding decode_run run_of decode_piece
  start_is = sym e

  -- it begins elsewhere
  pub put_outside : between low high s ≡ false → Collected plan low high (i + 1) keys c
  unfolding begun_that count_below
  put_outside b =
      let b' : between low high (run_at plan i).start ≡ false = rw start_is b in
      rw (add-one i)
      record {
        same = λ t. rw b' (omega (arith, h.same t));
        each = λ v l. let w = h.each v l in (w.0, omega (arith, w.1), w.2, w.3);
      }

  -- it begins in the window
  module _ (a : low ≤ s) (b : s < high) where
    starts : between low high (run_at plan i).start ≡ true
    starts = rw start_is (in_window low high s a b)

    -- and others begin at the window's only place
    pub put_crowded : high ≡ low + 1 → 0 < c → 1 < beginning plan low (low + 1) (i + 1)
    unfolding beginning count_below
    put_crowded f l = rw (← f, add-one i, starts) (omega (arith, collected_many plan low high i keys c h))

    -- and has room
    module _ (n key : ℕ) (f : n ≡ number_at plan (i * piece_size + 30) 4) (small : n < above) (k : key ≡ s * above + n) (room : c < length keys) where
      len_is : (run_at plan i).len ≡ n
      unfolding decode_run run_of decode_piece
      len_is = sym f

      key_is : key ≡ key_of (run_at plan i)
      unfolding key_of
      key_is = rw (start_is, len_is) k

      key_start : key / above ≡ s
      key_start = omega arith

      key_len : key % above ≡ n
      key_len = omega arith

      pub put_inside : Collected plan low high (i + 1) (set keys c key) (c + 1)
      unfolding begun_that count_below
      put_inside =
          rw (add-one i, add-one c)
          record {
            same = λ t. rw (keys_more t keys c key room, key_start, key_len, starts, start_is, len_is) (omega (arith, h.same t));
            each = λ v l. each v l (ℕ_discrete v c);
          }
        where
          each : (v : ℕ) → v < suc c → Dec (v ≡ c)
              → (j : ℕ) × (j < suc i) × (start_at (set keys c key) v < high) × (get_or (set keys c key) v 0 ≡ key_of (run_at plan j))
          each v l (yes x) =
              let here = get_or-set_same keys c key 0 room in
              (i, omega arith, rw (x, here, key_start) b, rw x here ∙ key_is)
          each v l (no x) =
              let l' : v < c = omega arith in
              let there = get_or-set_other keys c v key 0 (λ y. omega arith) in
              let w = h.each v l' in
              (w.0, omega (arith, w.1), rw there w.2, there ∙ w.3)
