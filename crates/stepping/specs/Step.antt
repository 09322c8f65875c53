-- Pieces one at a time (paper 02, L4). A place of a read is "the count of bytes already handed out". Here `f i` is where byte i of the read lies, and
-- n is how many bytes the read has: so all of this holds for a read of one chunk and for one across the chunks of a file. Assumes nothing.
use Rattle.std.specs.Prelude.{ℕ, ◌+◌, ◌-◌, cond, List, [], ◌∷◌, eqb}
use Rattle.runs.specs.Runs.{Run, runs}
use Rattle.plans.specs.Location.{Site, next_site}
use Rattle.plans.specs.Piece.{zeros_mark, piece_of}
use Rattle.plans.specs.Plan.{location_from}
use Rattle.slices.specs.declared.Record.{Record}
use Rattle.plans.specs.declared.Piece.{Piece}

-- what comes next at a place: a piece, and the place behind it; or "nothing is left"
pub data Step : Type 0 where
  given : (piece : Piece) (next : ℕ) → Step
  finished : Step

-- the piece of a run
unfoldable pub piece_in : Run Site → Piece
piece_in r = piece_of r.first.index r.start r.len r.first.location

-- the first of some runs
unfoldable pub first_step : List (Run Site) → Step
first_step [] = finished
first_step (r ∷ rs) = given (piece_in r) (r.start + r.len)

-- at the place `at`: the maximal run, of the places from `at` up to n, that starts there
unfoldable pub next_step : (ℕ → Site) → (n at : ℕ) → Step
next_step f n at = first_step (runs next_site f at (n - at))

-- where byte i of a read from `start` of the chunk with this index lies
unfoldable pub chunk_site : (index B : ℕ) → List Record → (start i : ℕ) → Site
chunk_site index B rs start i = record { index = index; location = location_from B rs start i }

-- "the rest of it": a piece without its first d bytes. Its place moves by d, and so does its place in the block, if it lies in one
unfoldable pub rest_of : Piece → ℕ → Piece
rest_of p d =
    record {
      mark = p.mark;
      index = p.index;
      place = p.place + d;
      id = p.id;
      block = p.block;
      length = p.length;
      at = cond (eqb p.mark zeros_mark) 0 (p.at + d);
      len = p.len - d;
    }
