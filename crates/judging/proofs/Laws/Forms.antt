-- What a piece's own numbers tell. Assumes nothing.
use Prim.Native.Nat.{ℕ, ◌+◌, ◌-◌, ◌/◌, ◌%◌, ◌<◌, ◌≤◌}
use native.Mathlib.Omega.{arith}
use native.Mathlib.Decide.{dec_le}
use mathlib.Core.Path.{◌≡◌, refl, sym, ap, ◌∙◌}
use mathlib.Core.Logic.{◌≢◌}
use mathlib.Core.Bool.{Bool, true, false, ◌&&◌, not, false≢true, true≢false}
use mathlib.Core.List.{List}
use lib.Dec.{eqb, leb}
use borrow.Author.Tests.{eq-eqb, ne_eqb, eqb-true, eqb-false, le-leb, lt-leb, leb-true, not-true}
use Rattle.codec.proofs.Laws.Bools.{and_both}
use Rattle.slices.specs.Limits.{chunk}
use Rattle.plans.specs.Piece.{object_mark, zeros_mark}
use Rattle.judging.specs.Judge.{unknown_mark, number_set}
use Rattle.judging.specs.Inner.{piece_at, formed, Formed}
use Rattle.plans.specs.declared.Piece.{Piece}

-- ---- tests one after the other

second_fails : (x a b y : Bool) → (a && b) ≡ false → (x && (a && (b && y))) ≡ false
second_fails false a b y h = refl
second_fails true false b y h = refl
second_fails true true false y h = refl
second_fails true true true y h = absurd (true≢false h)

both_hold : (a b y : Bool) → (a && b) ≡ true → (a && (b && y)) ≡ y
both_hold true true y h = refl
both_hold true false y h = absurd (false≢true h)
both_hold false b y h = absurd (false≢true h)

leb_apart : (a l c : ℕ) → a ≤ c → leb l (c - a) ≡ leb (a + l) c
leb_apart a l c h = go (dec_le l (c - a))
  where
    go : Dec (l ≤ c - a) → leb l (c - a) ≡ leb (a + l) c
    go (yes k) = le-leb l (c - a) k ∙ sym (le-leb (a + l) c (omega arith))
    go (no k) = lt-leb l (c - a) (omega arith) ∙ sym (lt-leb (a + l) c (omega arith))

below : (a : ℕ) → a % chunk ≤ chunk
unfolding chunk
below a = omega arith

pub positive : (x : ℕ) → x ≢ 0 → 0 < x
positive x z = go (dec_le x 0)
  where
    go : Dec (x ≤ 0) → 0 < x
    go (yes k) = absurd (z (omega arith))
    go (no k) = omega arith

-- ---- the mark

module _ (p : Piece) where
  pub object_marked : p.mark ≡ object_mark → true ≡ (not (unknown_mark p) && not (number_set p))
  unfolding unknown_mark number_set
  object_marked h = rw (eq-eqb p.mark object_mark h, ne_eqb p.mark zeros_mark (λ z. omega (arith, h, z)))

  module _ (o : p.mark ≢ object_mark) (z : p.mark ≡ zeros_mark) (t : Bool) (h : t ≡ not (eqb p.id 0 && (eqb p.block 0 && (eqb p.length 0 && eqb p.at 0)))) where
    pub zeros_marked : not t ≡ (not (unknown_mark p) && not (number_set p))
    unfolding unknown_mark number_set
    zeros_marked = rw (ne_eqb p.mark object_mark o, eq-eqb p.mark zeros_mark z, ← h)

  pub not_marked : p.mark ≢ object_mark → p.mark ≢ zeros_mark → false ≡ (not (unknown_mark p) && not (number_set p))
  unfolding unknown_mark number_set
  not_marked o z = rw (ne_eqb p.mark object_mark o, ne_eqb p.mark zeros_mark z)

-- ---- found step by step

module _ (first from n : ℕ) (p : Piece) where
  pub no_length : p.len ≡ 0 → false ≡ formed first from n p
  unfolding formed
  no_length h = rw (eq-eqb _ _ h)

  module _ (t : Bool) (marked : t ≡ (not (unknown_mark p) && not (number_set p))) where
    pub unmarked : t ≡ false → false ≡ formed first from n p
    unfolding formed
    unmarked h = sym (second_fails (not (eqb p.len 0)) (not (unknown_mark p)) (not (number_set p)) _ (sym marked ∙ h))

    module _ (some : p.len ≢ 0) (h : t ≡ true) where
      rest_decides : formed first from n p ≡ leb (p.place + p.len) n && (eqb p.index (first + (from + p.place) / chunk) && leb ((from + p.place) % chunk + p.len) chunk)
      unfolding formed
      rest_decides = rw (ne_eqb _ _ some) (both_hold (not (unknown_mark p)) (not (number_set p)) _ (sym marked ∙ h))

      pub outside : n < p.place + p.len → false ≡ formed first from n p
      outside o = sym (rest_decides ∙ rw (lt-leb _ _ o))

      module _ (inside : p.place + p.len ≤ n) where
        pub other_chunk : p.index ≢ first + (from + p.place) / chunk → false ≡ formed first from n p
        other_chunk o = sym (rest_decides ∙ rw (le-leb _ _ inside, ne_eqb _ _ o))

        pub in_chunk_lem : p.index ≡ first + (from + p.place) / chunk → leb p.len (chunk - (from + p.place) % chunk) ≡ formed first from n p
        in_chunk_lem e =
            leb_apart ((from + p.place) % chunk) p.len chunk (below (from + p.place)) ∙ sym (rest_decides ∙ rw (le-leb _ _ inside, eq-eqb _ _ e))

  -- ---- what they tell together

  pub record Form : Type 0 where
    pub some : 0 < p.len
    pub known : unknown_mark p ≡ false
    pub unset : number_set p ≡ false
    pub inside : p.place + p.len ≤ n
    pub index : p.index ≡ first + (from + p.place) / chunk
    pub fits : (from + p.place) % chunk + p.len ≤ chunk

  pub form : formed first from n p ≡ true → Form
  unfolding formed
  form h =
      let a = and_both _ _ h in
      let b = and_both _ _ a.1 in
      let c = and_both _ _ b.1 in
      let d = and_both _ _ c.1 in
      let e = and_both _ _ d.1 in
      let z = eqb-false _ _ (not-true _ a.0) in
      record {
        some = positive p.len z;
        known = not-true _ b.0;
        unset = not-true _ c.0;
        inside = leb-true _ _ d.0;
        index = eqb-true _ _ e.0;
        fits = leb-true _ _ e.1;
      }

-- ---- piece by piece

-- what the numbers of one of them tell
pub form_read : (first from n : ℕ) (plan : List ℕ) (r i : ℕ) → Formed first from n plan r → i < r → {p : Piece} → p ≡ piece_at plan i → Form first from n p
form_read first from n plan r i h l {p} read = form first from n p (ap (formed first from n) read ∙ h i l)
