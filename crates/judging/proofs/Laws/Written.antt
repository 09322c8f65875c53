-- A plan that is written of pieces that are right is accepted, where they hold each byte of the read once. Assumes nothing.
use Prim.Native.Nat.{ℕ, zero, suc, ◌+◌, ◌*◌, ◌^◌, ◌<◌, ◌≤◌}
use native.Mathlib.Omega.{arith}
use native.Mathlib.Nat.{add_assoc}
use mathlib.Core.Path.{◌≡◌, refl, sym, ◌∙◌, subst}
use mathlib.Core.List.{List, [], ◌∷◌, ◌++◌, flat_map}
use lib.ListN.{length, length-append, get_or-append}
use Rattle.codec.specs.All.{All}
use Rattle.codec.specs.Fixed.{number_at}
use Rattle.codec.proofs.Laws.All.{all_map}
use Rattle.codec.proofs.Laws.Fixed.{number_at_behind}
use Rattle.runs.specs.Runs.{Run}
use Rattle.plans.specs.Location.{Site}
use Rattle.plans.specs.Piece.{piece_size, piece_of, encode_piece, encode_run, encode_pieces, decode_piece, PieceFits, RunFits}
use Rattle.plans.proofs.Laws.Locations.{onward-zero}
use Rattle.plans.proofs.Laws.Pieces.{length-encode_piece, length-encode_run, length-encode_pieces, piece_back, pieces_back}
use Rattle.coverage.specs.Held.{holders}
use Rattle.judging.specs.Claims.{NoneWrong}
use Rattle.judging.specs.Judge.{WrongPiece, cut_short, whole, accepted, verdict}
use Rattle.judging.proofs.Laws.Exactly.{rejected_exactly}
use Rattle.judging.proofs.Laws.Right.{Right, right_not_wrong}
use Rattle.plans.specs.declared.Location.{Location}
use Rattle.plans.specs.declared.Location.TheVariants.{Hole, In}
use Rattle.plans.specs.declared.Piece.{Piece}

-- ---- a piece among others

-- what stands behind a number does not count
number_before : (bs rest : List ℕ) (at k : ℕ) → at + k ≤ length bs → number_at (bs ++ rest) at k ≡ number_at bs at k
unfolding number_at
number_before bs rest at zero h = refl
number_before bs rest at (suc k) h = rw (number_before bs rest at k (omega arith), get_or-append bs rest 0 (at + k) (omega arith))

-- the first piece is read back
first_back : (p : Piece) (rest : List ℕ) → PieceFits p → decode_piece (encode_piece p ++ rest) 0 ≡ p
unfolding decode_piece
first_back p rest h = before (encode_piece p) (length-encode_piece p) ∙ piece_back p h
  where
    before : (bs : List ℕ) → length bs ≡ piece_size → decode_piece (bs ++ rest) 0 ≡ decode_piece bs 0
    before bs l x =
        record {
          mark = number_before bs rest 0 2 (omega arith) x;
          index = number_before bs rest 2 4 (omega arith) x;
          place = number_before bs rest 6 4 (omega arith) x;
          id = number_before bs rest 10 8 (omega arith) x;
          block = number_before bs rest 18 4 (omega arith) x;
          length = number_before bs rest 22 4 (omega arith) x;
          at = number_before bs rest 26 4 (omega arith) x;
          len = number_before bs rest 30 4 (omega arith) x;
        }

-- what stands in front of a piece does not count
piece_behind : (pre bs : List ℕ) (at : ℕ) → decode_piece (pre ++ bs) (length pre + at) ≡ decode_piece bs at
unfolding decode_piece
piece_behind pre bs at = simp (add_assoc, number_at_behind pre bs)

module _ (f : ℕ → Site) (n : ℕ) where
  none_wrong : (ys : List (Run Site)) → All (Right f n) ys → All RunFits ys → (k : ℕ) → k * piece_size + piece_size ≤ length (encode_pieces ys)
      → WrongPiece f n (decode_piece (encode_pieces ys) (k * piece_size)) → ⊥
  unfolding encode_pieces encode_run flat_map
  none_wrong [] a g k l w = omega arith
  none_wrong (y ∷ ys) a g zero l w =
      right_not_wrong f n y.first.index y.start y.len y.first.location a.0 (rw (first_back _ (encode_pieces ys) g.0) at w)
  none_wrong (y ∷ ys) a g (suc k) l w =
      let p = encode_run y in
      let s = length-encode_run y in
      let e : suc k * piece_size ≡ length p + k * piece_size = omega arith in
      none_wrong ys a.1 g.1 k (omega (arith, length-append p (encode_pieces ys))) (rw (e, piece_behind p (encode_pieces ys) (k * piece_size)) at w)

  -- no piece is cut short
  written_right : (ys : List (Run Site)) → All (Right f n) ys → All RunFits ys → NoneWrong f n (encode_pieces ys)
  written_right ys a g k (cut_short l m) = omega (arith, length-encode_pieces ys)
  written_right ys a g k (whole l w) = none_wrong ys a g k l w

-- ---- pieces that are right fit

piece_longer : (index from len : ℕ) (a : Location) → from < 2 ^ 32 → len < 2 ^ 32 → PieceFits (piece_of index 0 1 a) → PieceFits (piece_of index from len a)
unfolding piece_of
piece_longer index from len Hole h k g =
    record { mark = g.mark; index = g.index; place = h; id = g.id; block = g.block; length = g.length; at = g.at; len = k }
piece_longer index from len (In i b l t) h k g =
    record { mark = g.mark; index = g.index; place = h; id = g.id; block = g.block; length = g.length; at = g.at; len = k }

-- a piece of one byte there fits
abbrev pub SiteFits : Site → Type 0
SiteFits s = PieceFits (piece_of s.index 0 1 s.location)

module _ (f : ℕ → Site) (n : ℕ) (low : n < 2 ^ 32) (fits : (i : ℕ) → i < n → SiteFits (f i)) where
  right_fits : (r : Run Site) → Right f n r → RunFits r
  right_fits r h =
      let s = h.inside.some in
      let w = h.inside.within in
      let g = rw (← onward-zero r.first.location) at (subst SiteFits (sym (h.sites 0 s)) (fits (r.start + 0) (omega arith))) in
      piece_longer r.first.index r.start r.len r.first.location (omega arith) (omega arith) g

  pub written_accepted : (ys : List (Run Site)) → All (Right f n) ys → ((i : ℕ) → i < n → holders ys i ≡ 1) → verdict f n (encode_pieces ys) ≡ accepted
  written_accepted ys a once =
      let g = all_map (Right f n) RunFits right_fits ys a in
      (rejected_exactly f n (encode_pieces ys)).accepts.1 (record { right = written_right f n ys a g; once = λ i l. rw (pieces_back ys g) (once i l) })
