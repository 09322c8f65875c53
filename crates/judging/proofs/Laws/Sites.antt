-- Where the bytes of a piece lie, by the list of its chunk: what is found in that list tells whether the piece is wrong in itself. Assumes nothing.
use Prim.Native.Nat.{ℕ, ◌+◌, ◌-◌, ◌/◌, ◌%◌, ◌<◌, ◌≤◌}
use native.Mathlib.Omega.{arith}
use native.Mathlib.Nat.{add-zero}
use native.Mathlib.Decide.{dec_le, ℕ_discrete}
use mathlib.Core.Path.{◌≡◌, refl, sym, ap, ◌∙◌}
use mathlib.Core.Logic.{◌≢◌}
use mathlib.Core.Bool.{Bool, true, false, ◌||◌, true≢false}
use mathlib.Core.List.{List, [], map}
use lib.Dec.{eqb, ltb}
use lib.ListN.{get_or}
use borrow.Author.Tests.{eqb-false, ltb-false, eq-eqb, ne_eqb, le-ltb, le-leb}
use Rattle.codec.proofs.Laws.Bools.{or_none}
use Rattle.slices.specs.Limits.{chunk}
use Rattle.slices.specs.Record.{records}
use Rattle.joined.proofs.Laws.Numbered.{records_of}
use Rattle.plans.specs.Location.{Site, location_at}
use Rattle.files.specs.File.{list_of, site_at, site_from}
use Rattle.judging.specs.Judge.{site_of, unknown_mark, number_set, some_strays, wrong_piece}
use Rattle.judging.specs.Inner.{formed, chunk_of, start_of, LiesIn, StraysIn}
use Rattle.judging.proofs.Laws.Forms.{positive, Form, form}
use Rattle.judging.proofs.Laws.Wrong.{strays_some, strays_none}
use Rattle.plans.specs.declared.Piece.{Piece}

module _ (first from n B : ℕ) (ls : List (List ℕ)) (p : Piece) where
  abbrev f : ℕ → Site
  f = site_from first B (map records ls) from

  -- the list of its chunk
  abbrev list : List ℕ
  list = get_or ls (chunk_of from p) []

  -- as long as it lies in one chunk, its bytes lie in that one's list
  site_here : (j : ℕ) → start_of from p + j < chunk → f (p.place + j) ≡ record { index = first + chunk_of from p; location = location_at B (records list) (start_of from p + j) }
  unfolding site_from site_at list_of chunk
  site_here j l =
      let q : (from + (p.place + j)) / 67108864 ≡ (from + p.place) / 67108864 = omega arith in
      let r : (from + (p.place + j)) % 67108864 ≡ (from + p.place) % 67108864 + j = omega arith in
      rw (q, r, records_of ls ((from + p.place) / 67108864))

  module _ (h : formed first from n p ≡ true) where
    told : Form first from n p
    told = form first from n p h

    inside : (j : ℕ) → j < p.len → start_of from p + j < chunk
    inside j l = omega (arith, told.fits)

    rest_decides : wrong_piece f n p ≡ some_strays f p
    unfolding wrong_piece
    rest_decides =
        let some : p.len ≢ 0 = λ e. omega (arith, told.some) in
        rw (ne_eqb p.len 0 some, told.known, le-ltb n (p.place + p.len) told.inside, told.unset)

    pub piece_right : LiesIn from B (records list) p → wrong_piece f n p ≡ false
    unfolding site_of
    piece_right lies =
        rest_decides
        ∙ strays_none f p (λ j l. (λ i. record { index = told.index i; location = lies j l i }) ∙ sym (site_here j (inside j l)))

    pub piece_strays : StraysIn from B (records list) p → wrong_piece f n p ≡ true
    unfolding site_of
    piece_strays s =
        rest_decides
        ∙ strays_some f p s.at s.inside (λ e. s.other (ap (λ (x : Site). x.location) (e ∙ site_here s.at (inside s.at s.inside))))

  -- ---- a piece that is not wrong is formed

  index_of : (j : ℕ) → (f (p.place + j)).index ≡ first + (from + (p.place + j)) / chunk
  unfolding site_from site_at
  index_of j = refl

  module _ (some : p.len ≢ 0) (right : some_strays f p ≡ false) where
    -- else some byte would stray
    index_right : (j : ℕ) → j < p.len → (p.index ≡ (f (p.place + j)).index → ⊥) → ⊥
    unfolding site_of
    index_right j l o = true≢false (sym (strays_some f p j l (λ e. o (ap (λ (x : Site). x.index) e))) ∙ right)

    index_is : p.index ≡ first + (from + p.place) / chunk
    index_is = go (ℕ_discrete p.index (first + (from + p.place) / chunk))
      where
        go : Dec (p.index ≡ first + (from + p.place) / chunk) → p.index ≡ first + (from + p.place) / chunk
        go (yes e) = e
        go (no o) = absurd (index_right 0 (positive p.len some) (λ e. o (e ∙ index_of 0 ∙ rw add-zero)))

    fits : start_of from p + p.len ≤ chunk
    unfolding chunk
    fits = go (dec_le (start_of from p + p.len) chunk)
      where
        go : Dec (start_of from p + p.len ≤ chunk) → start_of from p + p.len ≤ chunk
        go (yes l) = l
        go (no l) =
            let j = chunk - start_of from p in
            absurd (index_right j (omega arith) (λ e. let i = e ∙ index_of j in let k = index_is in omega (arith, i, k)))

  not_wrong_formed : wrong_piece f n p ≡ false → formed first from n p ≡ true
  unfolding wrong_piece formed
  not_wrong_formed h =
      let a = or_none (eqb p.len 0) (unknown_mark p || (ltb n (p.place + p.len) || (number_set p || some_strays f p))) h in
      let b = or_none (unknown_mark p) (ltb n (p.place + p.len) || (number_set p || some_strays f p)) a.1 in
      let c = or_none (ltb n (p.place + p.len)) (number_set p || some_strays f p) b.1 in
      let d = or_none (number_set p) (some_strays f p) c.1 in
      let some = eqb-false p.len 0 a.0 in
      let within = ltb-false n (p.place + p.len) c.0 in
      let index = eq-eqb p.index (first + (from + p.place) / chunk) (index_is some d.1) in
      let short = le-leb (start_of from p + p.len) chunk (fits some d.1) in
      rw (a.0, b.0, d.0, le-leb (p.place + p.len) n within, index, short)

  pub piece_misformed : formed first from n p ≡ false → wrong_piece f n p ≡ true
  piece_misformed h = go (wrong_piece f n p) refl
    where
      go : (t : Bool) → wrong_piece f n p ≡ t → t ≡ true
      go true e = refl
      go false e = absurd (true≢false (sym (not_wrong_formed e) ∙ h))
