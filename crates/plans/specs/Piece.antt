-- A plan as bytes, a piece for each run: a two-byte mark, then big-endian chunk index (4), place from the start of the read (4), id (8), block (4),
-- block length (4), place in block (4), length (4). proofs/Laws/Pieces.antt has the way back. Assumes nothing.
use Rattle.std.specs.Prelude.{ℕ, ◌+◌, ◌^◌, ◌<◌, cond, eqb}
use mathlib.Core.List.{List, ◌++◌, map, flat_map}
use Rattle.codec.specs.Fixed.{big_endian, number_at}
use Rattle.codec.specs.Groups.{groups}
use Rattle.runs.specs.Runs.{Run}
use Rattle.plans.specs.Location.{Site}
use Rattle.plans.specs.declared.Location.{Location}
use Rattle.plans.specs.declared.Location.TheVariants.{Hole, In}
use Rattle.plans.specs.declared.Piece.{Piece}

-- a piece takes 34 bytes
abbrev pub piece_size : ℕ
piece_size = 34

-- `RB`, the mark of a piece that lies in an object
abbrev pub object_mark : ℕ
object_mark = 0x5242

-- `RZ`, the mark of a piece that reads as zeros
abbrev pub zeros_mark : ℕ
zeros_mark = 0x525a

-- ---- written

-- the piece of a run of n places from `from` on in a chunk, by where its first byte lies; for zeros the other four numbers are 0
unfoldable pub piece_of : (index from n : ℕ) → Location → Piece
piece_of index from n Hole = record { mark = zeros_mark; index = index; place = from; id = 0; block = 0; length = 0; at = 0; len = n }
piece_of index from n (In i b l a) = record { mark = object_mark; index = index; place = from; id = i; block = b; length = l; at = a; len = n }

unfoldable pub encode_piece : Piece → List ℕ
encode_piece p =
    big_endian 2 p.mark
    ++ (big_endian 4 p.index
    ++ (big_endian 4 p.place
    ++ (big_endian 8 p.id ++ (big_endian 4 p.block ++ (big_endian 4 p.length ++ (big_endian 4 p.at ++ big_endian 4 p.len))))))

unfoldable pub encode_run : Run Site → List ℕ
encode_run r = encode_piece (piece_of r.first.index r.start r.len r.first.location)

unfoldable pub encode_pieces : List (Run Site) → List ℕ
encode_pieces rs = flat_map encode_run rs

-- ---- the plan of one chunk

-- a run of the chunk with this index, in a read in which `before` places stand before the chunk's
unfoldable pub in_chunk : (index before : ℕ) → Run Location → Run Site
in_chunk index before r = record { start = before + r.start; len = r.len; first = record { index = index; location = r.first } }

-- its bytes
unfoldable pub chunk_bytes : (index before : ℕ) → List (Run Location) → List ℕ
chunk_bytes index before rs = encode_pieces (map (in_chunk index before) rs)

-- ---- read

-- the piece whose bytes start at `at`
unfoldable pub decode_piece : List ℕ → ℕ → Piece
decode_piece bs at =
    record {
      mark = number_at bs at 2;
      index = number_at bs (at + 2) 4;
      place = number_at bs (at + 6) 4;
      id = number_at bs (at + 10) 8;
      block = number_at bs (at + 18) 4;
      length = number_at bs (at + 22) 4;
      at = number_at bs (at + 26) 4;
      len = number_at bs (at + 30) 4;
    }

-- where its first byte lies: for `RZ` nowhere, else at its (id, block, block length, place in block)
unfoldable pub location_of : Piece → Location
location_of p = cond (eqb p.mark zeros_mark) Hole (In p.id p.block p.length p.at)

unfoldable pub run_of : Piece → Run Site
unfolding location_of
run_of p = record { start = p.place; len = p.len; first = record { index = p.index; location = location_of p } }

-- the run of the piece whose bytes start at `at`
unfoldable pub decode_run : List ℕ → ℕ → Run Site
decode_run bs at = run_of (decode_piece bs at)

-- the plan that bytes hold
unfoldable pub pieces_in : List ℕ → List (Run Site)
pieces_in bs = groups decode_run piece_size bs

-- where in the store a run lies, whatever its chunk: this is what is fetched
unfoldable pub in_store : Run Site → Run Location
in_store r = record { start = r.start; len = r.len; first = r.first.location }

unfoldable pub store_runs : List ℕ → List (Run Location)
store_runs bs = map in_store (pieces_in bs)

-- ---- a piece that 34 bytes can hold

pub record PieceFits (p : Piece) : Type 0 where
  pub mark : p.mark < 2 ^ 16
  pub index : p.index < 2 ^ 32
  pub place : p.place < 2 ^ 32
  pub id : p.id < 2 ^ 64
  pub block : p.block < 2 ^ 32
  pub length : p.length < 2 ^ 32
  pub at : p.at < 2 ^ 32
  pub len : p.len < 2 ^ 32

-- a run whose piece they can hold
abbrev pub RunFits : Run Site → Type 0
RunFits r = PieceFits (piece_of r.first.index r.start r.len r.first.location)
