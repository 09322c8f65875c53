-- Plans made elsewhere (paper 02, L10): which piece of a plan is wrong in itself, and what is said of the plan. Here `f i` is where byte i of the read
-- lies, by what the cover gives, and n is how many bytes the read has. Assumes nothing.
use Rattle.std.specs.Prelude.{ℕ, ◌+◌, ◌-◌, ◌*◌, ◌/◌, ◌<◌, ◌≤◌, ◌≡◌, ◌≢◌, ◌⊎◌, Bool, true, false, ◌&&◌, ◌||◌, cond, not, List, eqb, ltb, length}
use Rattle.plans.specs.Location.{Site, onward}
use Rattle.plans.specs.Piece.{piece_size, object_mark, zeros_mark, decode_piece, location_of, pieces_in}
use Rattle.coverage.specs.Least.{least}
use Rattle.coverage.specs.Held.{first_not_once}
use Rattle.plans.specs.declared.Location.{Location}
use Rattle.plans.specs.declared.Location.TheVariants.{Hole, In}
use Rattle.plans.specs.declared.Piece.{Piece}

-- where a piece says that its byte j lies: in this chunk, and nowhere or in this object, j places on
unfoldable pub site_of : Piece → ℕ → Site
site_of p j = record { index = p.index; location = onward (location_of p) j }

-- ---- what is wrong in itself

-- "id, block, block length or place in block set"
abbrev pub SomeSet : Piece → Type 0
SomeSet p = (p.id ≢ 0) ⊎ ((p.block ≢ 0) ⊎ ((p.length ≢ 0) ⊎ (p.at ≢ 0)))

-- a whole piece, in the request's words
pub data WrongPiece (f : ℕ → Site) (n : ℕ) (p : Piece) : Type 0 where
  -- "of length 0"
  no_length : p.len ≡ 0 → WrongPiece f n p
  -- "with an unknown mark"
  unknown_mark_lem : p.mark ≢ object_mark → p.mark ≢ zeros_mark → WrongPiece f n p
  -- "reaching outside the read"
  outside : n < p.place + p.len → WrongPiece f n p
  -- "an `RZ` with id, block, block length or place in block set"
  number_set_lem : p.mark ≡ zeros_mark → SomeSet p → WrongPiece f n p
  -- "whose chunk, object place or zero isn't what the cover gives", at some byte of it
  elsewhere : (j : ℕ) → j < p.len → site_of p j ≢ f (p.place + j) → WrongPiece f n p

-- piece k of a plan, counted from 0
pub data WrongInItself (f : ℕ → Site) (n : ℕ) (plan : List ℕ) (k : ℕ) : Type 0 where
  -- "cut short": fewer than 34 bytes are left of it, and at least one
  cut_short : k * piece_size < length plan → length plan < k * piece_size + piece_size → WrongInItself f n plan k
  whole : k * piece_size + piece_size ≤ length plan → WrongPiece f n (decode_piece plan (k * piece_size)) → WrongInItself f n plan k

-- ---- the same, computed; `wrong_exactly` of proofs/Laws/Wrong.antt shows that it is

unfoldable pub same_location : Location → Location → Bool
same_location Hole Hole = true
same_location Hole (In j c m t) = false
same_location (In i b l a) Hole = false
same_location (In i b l a) (In j c m t) = eqb i j && (eqb b c && (eqb l m && eqb a t))

unfoldable pub same_site : Site → Site → Bool
same_site a b = eqb a.index b.index && same_location a.location b.location

unfoldable pub unknown_mark : Piece → Bool
unknown_mark p = not (eqb p.mark object_mark || eqb p.mark zeros_mark)

unfoldable pub number_set : Piece → Bool
number_set p = eqb p.mark zeros_mark && not (eqb p.id 0 && (eqb p.block 0 && (eqb p.length 0 && eqb p.at 0)))

-- byte j of a piece does not lie where it says
unfoldable pub strays : (ℕ → Site) → Piece → ℕ → Bool
strays f p j = not (same_site (site_of p j) (f (p.place + j)))

-- some byte of it does not
unfoldable pub some_strays : (ℕ → Site) → Piece → Bool
some_strays f p = ltb (least (strays f p) p.len) p.len

unfoldable pub wrong_piece : (ℕ → Site) → ℕ → Piece → Bool
wrong_piece f n p = eqb p.len 0 || (unknown_mark p || (ltb n (p.place + p.len) || (number_set p || some_strays f p)))

unfoldable pub wrong_at : (ℕ → Site) → ℕ → List ℕ → ℕ → Bool
wrong_at f n plan k = ltb (length plan) (k * piece_size + piece_size) || wrong_piece f n (decode_piece plan (k * piece_size))

-- how many pieces a plan has, with one that is cut short
unfoldable pub piece_count : List ℕ → ℕ
piece_count plan = (length plan + (piece_size - 1)) / piece_size

-- the first that is wrong in itself; as many as there are where none is
unfoldable pub first_wrong : (ℕ → Site) → ℕ → List ℕ → ℕ
first_wrong f n plan = least (wrong_at f n plan) (piece_count plan)

-- ---- what is said of a plan

pub data Verdict : Type 0 where
  -- "no piece is wrong in itself and its pieces cover each byte of the read once"
  accepted : Verdict
  -- "the number, from 0, of the first piece that is wrong in itself"
  piece : ℕ → Verdict
  -- "else the place in the read of the first byte missing or doubled"
  byte : ℕ → Verdict

unfoldable pub verdict : (ℕ → Site) → ℕ → List ℕ → Verdict
verdict f n plan =
    cond (ltb (first_wrong f n plan) (piece_count plan)) (piece (first_wrong f n plan))
    (cond (ltb (first_not_once (pieces_in plan) n) n) (byte (first_not_once (pieces_in plan) n)) accepted)
