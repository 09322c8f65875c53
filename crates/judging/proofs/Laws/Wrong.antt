-- Which piece of a plan is wrong in itself: the tests of specs/Judge.antt tell exactly what its words say. Assumes nothing.
use Prim.Native.Nat.{ℕ, ◌+◌, ◌*◌, ◌<◌}
use native.Mathlib.Omega.{arith}
use native.Mathlib.Decide.{dec_lt}
use mathlib.Core.Path.{◌≡◌, refl, ap}
use mathlib.Core.Logic.Iff
use mathlib.Core.Logic.{◌↔◌, ◌≢◌, ◌⊎◌, inl, inr}
use mathlib.Core.Bool.{true, false, ◌&&◌, false≢true}
use mathlib.Core.List.{List}
use lib.Dec.{eqb, ltb}
use lib.ListN.{length}
use Rattle.plans.specs.Location.{Site}
use Rattle.plans.specs.Piece.{piece_size, object_mark, zeros_mark, decode_piece}
use Rattle.judging.specs.Judge.{site_of, SomeSet, WrongPiece, WrongInItself, no_length, unknown_mark_lem, outside, number_set_lem, elsewhere, cut_short, whole, same_location, same_site, unknown_mark, number_set, strays, some_strays, wrong_piece, wrong_at, piece_count}
use Rattle.judging.proofs.Laws.First.{some_tells}
use Rattle.judging.proofs.Laws.Tells.{Tells, below_tells, equal_tells, not_tells, unequal_tells, and_tells, or_tells, neither_tells, not_both_tells, tells_false}
use Rattle.plans.specs.declared.Location.{Location}
use Rattle.plans.specs.declared.Location.TheVariants.{Hole, In}
use Rattle.plans.specs.declared.Piece.{Piece}

-- ---- where a byte lies

pub same_location_is : (a b : Location) → (same_location a b ≡ true) ↔ (a ≡ b)
unfolding same_location
same_location_is Hole Hole = (λ h. refl, λ e. refl)
same_location_is Hole (In j c m t) = (λ h. absurd (false≢true h), λ e. let z : ◌≡◌ {A = ℕ} 0 1 = cc in absurd (omega arith))
same_location_is (In i b l a) Hole = (λ h. absurd (false≢true h), λ e. let z : ◌≡◌ {A = ℕ} 0 1 = cc in absurd (omega arith))
same_location_is (In i b l a) (In j c m t) =
    Iff.trans four (λ h. let p = h.0 in let q = h.1.0 in let r = h.1.1.0 in let s = h.1.1.1 in cc, λ e. ((cc), ((cc), ((cc), (cc)))))
  where
    four : Tells (eqb i j && (eqb b c && (eqb l m && eqb a t))) ((i ≡ j) × ((b ≡ c) × ((l ≡ m) × (a ≡ t))))
    four = and_tells _ _ (equal_tells i j) (and_tells _ _ (equal_tells b c) (and_tells _ _ (equal_tells l m) (equal_tells a t)))

pub same_site_is : (a b : Site) → (same_site a b ≡ true) ↔ (a ≡ b)
unfolding same_site
same_site_is a b =
    Iff.trans (and_tells _ _ (equal_tells a.index b.index) (same_location_is a.location b.location))
    (λ h x. record { index = h.0 x; location = h.1 x }, λ e. (ap (λ (s : Site). s.index) e, ap (λ (s : Site). s.location) e))

-- ---- a whole piece

module _ (f : ℕ → Site) (p : Piece) where
  abbrev Elsewhere : Type 0
  Elsewhere = (j : ℕ) × (j < p.len) × (site_of p j ≢ f (p.place + j))

  strays_tells : (j : ℕ) → j < p.len → Tells (strays f p j) (site_of p j ≢ f (p.place + j))
  unfolding strays
  strays_tells j l = not_tells (same_site (site_of p j) (f (p.place + j))) (same_site_is (site_of p j) (f (p.place + j)))

  elsewhere_tells : Tells (some_strays f p) Elsewhere
  unfolding some_strays
  elsewhere_tells = some_tells strays_tells

  pub strays_some : (j : ℕ) → j < p.len → site_of p j ≢ f (p.place + j) → some_strays f p ≡ true
  strays_some j l h = elsewhere_tells.1 (j, l, h)

  pub strays_none : ((j : ℕ) → j < p.len → site_of p j ≡ f (p.place + j)) → some_strays f p ≡ false
  strays_none h = tells_false (some_strays f p) elsewhere_tells (λ s. s.2 (h s.0 s.1))

mark_tells : (p : Piece) → Tells (unknown_mark p) ((p.mark ≢ object_mark) × (p.mark ≢ zeros_mark))
unfolding unknown_mark
mark_tells p = neither_tells (eqb p.mark object_mark) (eqb p.mark zeros_mark) (unequal_tells p.mark object_mark) (unequal_tells p.mark zeros_mark)

set_tells : (p : Piece) → Tells (number_set p) ((p.mark ≡ zeros_mark) × SomeSet p)
unfolding number_set
set_tells p =
    and_tells (eqb p.mark zeros_mark) _ (equal_tells p.mark zeros_mark)
    (not_both_tells (eqb p.id 0) _ (unequal_tells p.id 0)
    (not_both_tells (eqb p.block 0) _ (unequal_tells p.block 0)
    (not_both_tells (eqb p.length 0) (eqb p.at 0) (unequal_tells p.length 0) (unequal_tells p.at 0))))

module _ (f : ℕ → Site) (n : ℕ) (p : Piece) where
  -- the five ways, in the order of the tests
  abbrev Ways : Type 0
  Ways = (p.len ≡ 0) ⊎ (((p.mark ≢ object_mark) × (p.mark ≢ zeros_mark)) ⊎ ((n < p.place + p.len) ⊎ (((p.mark ≡ zeros_mark) × SomeSet p) ⊎ Elsewhere f p)))

  ways_tell : Tells (wrong_piece f n p) Ways
  unfolding wrong_piece
  ways_tell =
      or_tells (eqb p.len 0) _ (equal_tells p.len 0)
      (or_tells (unknown_mark p) _ (mark_tells p)
      (or_tells (ltb n (p.place + p.len)) _ (below_tells n (p.place + p.len)) (or_tells (number_set p) (some_strays f p) (set_tells p) (elsewhere_tells f p))))

  way : Ways → WrongPiece f n p
  way (inl e) = no_length e
  way (inr (inl m)) = unknown_mark_lem m.0 m.1
  way (inr (inr (inl l))) = outside l
  way (inr (inr (inr (inl s)))) = number_set_lem s.0 s.1
  way (inr (inr (inr (inr s)))) = elsewhere s.0 s.1 s.2

  ways : WrongPiece f n p → Ways
  ways (no_length e) = inl e
  ways (unknown_mark_lem a b) = inr (inl (a, b))
  ways (outside l) = inr (inr (inl l))
  ways (number_set_lem m s) = inr (inr (inr (inl (m, s))))
  ways (elsewhere j l h) = inr (inr (inr (inr (j, l, h))))

  pub wrong_piece_exactly : (wrong_piece f n p ≡ true) ↔ WrongPiece f n p
  wrong_piece_exactly = Iff.trans ways_tell (way, ways)

-- ---- piece k of a plan

pub wrong_number : {f : ℕ → Site} {n : ℕ} {plan : List ℕ} {k : ℕ} → WrongInItself f n plan k → k < piece_count plan
unfolding piece_count
wrong_number (cut_short a b) = omega arith
wrong_number (whole a w) = omega arith

module _ (f : ℕ → Site) (n : ℕ) (plan : List ℕ) (k : ℕ) where
  abbrev from : ℕ
  from = k * piece_size

  at_tells : Tells (wrong_at f n plan k) ((length plan < from + piece_size) ⊎ WrongPiece f n (decode_piece plan from))
  unfolding wrong_at
  at_tells =
      or_tells (ltb (length plan) (from + piece_size)) _ (below_tells (length plan) (from + piece_size)) (wrong_piece_exactly f n (decode_piece plan from))

  -- of the pieces that a plan has, the test tells which are wrong in themselves
  pub wrong_exactly : k < piece_count plan → (wrong_at f n plan k ≡ true) ↔ WrongInItself f n plan k
  unfolding piece_count
  wrong_exactly l = Iff.trans at_tells (named (dec_lt (length plan) (from + piece_size)), told)
    where
      named : Dec (length plan < from + piece_size) → (length plan < from + piece_size) ⊎ WrongPiece f n (decode_piece plan from) → WrongInItself f n plan k
      named (yes s) w = cut_short (omega arith) s
      named (no s) (inl t) = absurd (s t)
      named (no s) (inr w) = whole (omega arith) w

      told : WrongInItself f n plan k → (length plan < from + piece_size) ⊎ WrongPiece f n (decode_piece plan from)
      told (cut_short a b) = inl b
      told (whole a w) = inr w
