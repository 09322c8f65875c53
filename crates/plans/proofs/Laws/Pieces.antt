-- Laws of pieces as bytes: how many there are, their parts as the code writes them, and that a plan that is written is read back.
-- Assumes nothing.
use Prim.Native.Nat.{ℕ, ◌+◌, ◌*◌, ◌/◌, ◌%◌, ◌^◌, ◌<◌, ◌≤◌}
use native.Mathlib.Omega.{arith}
use native.Mathlib.Nat.{add_assoc, zero-add}
use mathlib.Core.Path.{◌≡◌, refl, sym, ap, ◌∙◌}
use mathlib.Core.Logic.{◌≢◌}
use mathlib.Core.List.{List, [], ◌∷◌, ◌++◌, map, append_assoc, append-nil}
use lib.ListN.{length, length-append, length-map}
use Rattle.codec.specs.All.{All}
use Rattle.codec.specs.Fixed.{big_endian}
use Rattle.codec.proofs.Laws.Fixed.{length-big_endian, big_endian_halves, number_at_behind, field_back}
use Rattle.codec.specs.Splice.{splice}
use Rattle.codec.proofs.Laws.Splice.{length-splice, splices_2, splices_4, splice_before}
use Rattle.codec.proofs.Laws.Groups.{length_encoded, groups_back}
use Rattle.runs.specs.Runs.{Run}
use Rattle.plans.specs.Piece.{piece_size, piece_of, encode_piece, encode_run, encode_pieces, in_chunk, chunk_bytes, decode_piece, location_of, run_of, decode_run, pieces_in, in_store, store_runs, PieceFits, RunFits}
use Rattle.plans.specs.Inner.{Shifts, offset_in, object_bytes, mark_of, front_bytes}
use Rattle.plans.specs.Location.{Site, location}
use Rattle.plans.proofs.Laws.Shifts.{quotient}
use Rattle.blocks.specs.Blocks.{block_length}
use Rattle.slices.specs.Cover.{given}
use Rattle.slices.proofs.Laws.Cover.{given_byte}
use Rattle.slices.specs.declared.Record.{Record}
use Rattle.plans.specs.declared.Location.{Location}
use Rattle.plans.specs.declared.Location.TheVariants.{Hole, In}
use Rattle.plans.specs.declared.Piece.{Piece}

pub length-object_bytes : (a : Location) → length (object_bytes a) ≡ 20
unfolding object_bytes
length-object_bytes Hole = simp (length-append, length-big_endian)
length-object_bytes (In i b l t) = simp (length-append, length-big_endian)

-- mark, index and place, where in the store, length
encode_parts : (front n : ℕ) (a : Location)
    → (big_endian 2 (mark_of a) ++ big_endian 8 front) ++ (object_bytes a ++ big_endian 4 n) ≡ encode_piece (piece_of (front / 2 ^ 32) (front % 2 ^ 32) n a)
unfolding encode_piece piece_of object_bytes mark_of
encode_parts front n Hole = rw (big_endian_halves front) (simp append_assoc)
encode_parts front n (In i b l t) = rw (big_endian_halves front) (simp append_assoc)

-- put in the order length, mark with index and place, where in the store
pub piece_put : (out o₁ o₂ o₃ : List ℕ) (to front n : ℕ) (a : Location) → to + piece_size ≤ length out → o₁ ≡ splice out (to + 30) (big_endian 4 n)
    → o₂ ≡ splice o₁ to (big_endian 2 (mark_of a) ++ big_endian 8 front) → o₃ ≡ splice o₂ (to + 10) (object_bytes a)
    → o₃ ≡ splice out to (encode_piece (piece_of (front / 2 ^ 32) (front % 2 ^ 32) n a))
piece_put out o₁ o₂ o₃ to front n a h e₁ e₂ e₃ =
    let f = big_endian 2 (mark_of a) ++ big_endian 8 front in
    let b = object_bytes a in
    let lf : length f ≡ 10 = simp (length-append, length-big_endian) in
    let lb : length (f ++ b) ≡ 30 = length-append f b ∙ omega (arith, lf, length-object_bytes a) in
    let ln = length-big_endian 4 n in
    let l₁ : length o₁ ≡ length out = ap length e₁ ∙ length-splice out (to + 30) (big_endian 4 n) (omega (arith, ln)) in
    let x : o₃ ≡ splice o₁ to (f ++ b) = splices_2 o₁ to f b 10 lf (omega (arith, l₁)) e₂ e₃ in
    x
    ∙ ap (λ (o : List ℕ). splice o to (f ++ b)) e₁
    ∙ splice_before out to (f ++ b) (big_endian 4 n) 30 lb (omega (arith, ln))
    ∙ ap (splice out to) (append_assoc f b (big_endian 4 n) ∙ encode_parts front n a)

-- places further on in one chunk: they do not reach into the upper half
pub front_on : (front d n : ℕ) (a : Location) → front % 2 ^ 32 + d < 2 ^ 32
    → encode_piece (piece_of ((front + d) / 2 ^ 32) ((front + d) % 2 ^ 32) n a)
    ≡ encode_run (in_chunk (front / 2 ^ 32) (front % 2 ^ 32) (record { start = d; len = n; first = a }))
unfolding encode_run in_chunk
front_on front d n a h =
    let x : (front + d) / 2 ^ 32 ≡ front / 2 ^ 32 = omega arith in
    let y : (front + d) % 2 ^ 32 ≡ front % 2 ^ 32 + d = omega arith in
    rw (x, y)

-- where no place stands before the chunk's
pub front_chunk : (index : ℕ) (rs : List (Run Location)) → front_bytes (index * 4294967296) rs ≡ chunk_bytes index 0 rs
front_chunk index rs =
    let x : index * 4294967296 / 4294967296 ≡ index = omega arith in
    let y : index * 4294967296 % 4294967296 ≡ 0 = omega arith in
    rw (x, y)

pub length-encode_piece : (p : Piece) → length (encode_piece p) ≡ piece_size
unfolding encode_piece
length-encode_piece p = simp (length-append, length-big_endian)

pub length-encode_run : (r : Run Site) → length (encode_run r) ≡ piece_size
unfolding encode_run
length-encode_run r = length-encode_piece (piece_of r.first.index r.start r.len r.first.location)

pub length-encode_pieces : (rs : List (Run Site)) → length (encode_pieces rs) ≡ length rs * piece_size
unfolding encode_pieces
length-encode_pieces rs = length_encoded encode_run piece_size length-encode_run rs

pub length-chunk_bytes : (index before : ℕ) (rs : List (Run Location)) → length (chunk_bytes index before rs) ≡ length rs * piece_size
unfolding chunk_bytes
length-chunk_bytes index before rs = length-encode_pieces (map (in_chunk index before) rs) ∙ rw length-map

-- ---- where in the store, put number by number

pub object_put : (out : List ℕ) (to : ℕ) {o₁ o₂ o₃ o₄ : List ℕ} (B bits : ℕ) → Shifts B bits → (r : Record) (p : ℕ) → r.id ≢ 0 → to + 20 ≤ length out
    → {i n l a : ℕ} → i ≡ r.id → o₁ ≡ splice out to (big_endian 8 i) → n ≡ offset_in r p / 2 ^ bits → o₂ ≡ splice o₁ (to + 8) (big_endian 4 n)
    → l ≡ block_length B r.size (offset_in r p / B) → o₃ ≡ splice o₂ (to + 12) (big_endian 4 l) → a ≡ offset_in r p % B → o₄ ≡ splice o₃ (to + 16) (big_endian 4 a)
    → o₄ ≡ splice out to (object_bytes (location B (given r p)))
unfolding object_bytes location
object_put out to B bits h r p z room {i = i} {n = n} {l = l} {a = a} hi e₁ hn e₂ hl e₃ ha e₄ =
    rw (given_byte r p z, ← hi, ← hl, ← quotient B bits h (offset_in r p) n hn, ← ha)
    (splices_4 out to (big_endian 8 i) (big_endian 4 n) (big_endian 4 l) (big_endian 4 a) 8 12 16
    (length-big_endian 8 i) (ap (λ (k : ℕ). 8 + k) (length-big_endian 4 n)) (ap (λ (k : ℕ). 12 + k) (length-big_endian 4 l)) (omega arith) e₁ e₂ e₃ e₄)

-- ---- one piece

decode_encode : (p : Piece) (rest : List ℕ) → PieceFits p → decode_piece (encode_piece p ++ rest) 0 ≡ p
unfolding decode_piece encode_piece
decode_encode p rest h =
    let a = big_endian 2 p.mark in
    let x = big_endian 4 p.index in
    let b = big_endian 4 p.place in
    let c = big_endian 8 p.id in
    let d = big_endian 4 p.block in
    let e = big_endian 4 p.length in
    let f = big_endian 4 p.at in
    let g = big_endian 4 p.len in
    let la = length-big_endian 2 p.mark in
    let lx = length-big_endian 4 p.index in
    let lb = length-big_endian 4 p.place in
    let lc = length-big_endian 8 p.id in
    let ld = length-big_endian 4 p.block in
    let le = length-big_endian 4 p.length in
    let lf = length-big_endian 4 p.at in
    let mark = field_back [] 0 2 p.mark (x ++ (b ++ (c ++ (d ++ (e ++ (f ++ (g ++ rest))))))) refl h.mark in
    let index = field_back a 2 4 p.index (b ++ (c ++ (d ++ (e ++ (f ++ (g ++ rest)))))) la h.index in
    let place = simp append_assoc at (field_back (a ++ x) 6 4 p.place (c ++ (d ++ (e ++ (f ++ (g ++ rest))))) (simp length-append (omega arith)) h.place) in
    let id = simp append_assoc at (field_back (a ++ (x ++ b)) 10 8 p.id (d ++ (e ++ (f ++ (g ++ rest)))) (simp length-append (omega arith)) h.id) in
    let block = simp append_assoc at (field_back (a ++ (x ++ (b ++ c))) 18 4 p.block (e ++ (f ++ (g ++ rest))) (simp length-append (omega arith)) h.block) in
    let length = simp append_assoc at (field_back (a ++ (x ++ (b ++ (c ++ d)))) 22 4 p.length (f ++ (g ++ rest)) (simp length-append (omega arith)) h.length) in
    let at = simp append_assoc at (field_back (a ++ (x ++ (b ++ (c ++ (d ++ e))))) 26 4 p.at (g ++ rest) (simp length-append (omega arith)) h.at) in
    let len = simp append_assoc at (field_back (a ++ (x ++ (b ++ (c ++ (d ++ (e ++ f)))))) 30 4 p.len rest (simp length-append (omega arith)) h.len) in
    simp append_assoc (λ i. record { mark = mark i; index = index i; place = place i; id = id i; block = block i; length = length i; at = at i; len = len i })

-- a piece that is written is read back
pub piece_back : (p : Piece) → PieceFits p → decode_piece (encode_piece p) 0 ≡ p
piece_back p h = ap (λ (bs : List ℕ). decode_piece bs 0) (sym (append-nil (encode_piece p))) ∙ decode_encode p [] h

-- ---- a plan

-- a run's piece says the run
run_of_lem : (index from n : ℕ) (a : Location) → run_of (piece_of index from n a) ≡ record { start = from; len = n; first = record { index = index; location = a } }
unfolding run_of location_of piece_of
run_of_lem index from n Hole = refl
run_of_lem index from n (In i b l a) = refl

run_back : (r : Run Site) (rest : List ℕ) → RunFits r → decode_run (encode_run r ++ rest) 0 ≡ r
unfolding decode_run encode_run
run_back r rest h =
    ap run_of (decode_encode (piece_of r.first.index r.start r.len r.first.location) rest h)
    ∙ run_of_lem r.first.index r.start r.len r.first.location

-- what stands in front of a piece does not count
decode_behind : (pre bs : List ℕ) (at : ℕ) → decode_run (pre ++ bs) (length pre + at) ≡ decode_run bs at
unfolding decode_run decode_piece
decode_behind pre bs at = simp (add_assoc, number_at_behind pre bs)

-- a plan that is written is read back
pub pieces_back : (rs : List (Run Site)) → All RunFits rs → pieces_in (encode_pieces rs) ≡ rs
unfolding encode_pieces pieces_in
pieces_back rs f = groups_back decode_run piece_size (omega arith) decode_behind encode_run length-encode_run RunFits run_back rs f

-- of one chunk: with its index, and in the store
pub chunk_back : (index before : ℕ) (rs : List (Run Location)) → All RunFits (map (in_chunk index before) rs)
    → pieces_in (chunk_bytes index before rs) ≡ map (in_chunk index before) rs
unfolding chunk_bytes
chunk_back index before rs f = pieces_back (map (in_chunk index before) rs) f

store_runs_lem : (index : ℕ) (rs : List (Run Location)) → map in_store (map (in_chunk index 0) rs) ≡ rs
unfolding in_store in_chunk
store_runs_lem index [] = refl
store_runs_lem index (r ∷ rs) = rw (zero-add r.start, store_runs_lem index rs)

pub store_back : (index : ℕ) (rs : List (Run Location)) → All RunFits (map (in_chunk index 0) rs) → store_runs (chunk_bytes index 0 rs) ≡ rs
unfolding store_runs
store_back index rs f = ap (map in_store) (chunk_back index 0 rs f) ∙ store_runs_lem index rs
