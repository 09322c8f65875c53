-- What a search promises (paper 02, L11). In any row: a segment that is given holds the position. In a loaded row: every position below the end finds
-- its segment, and the others none. proofs/Laws/ has both for a row, for a lent row and for the bytes of a view. Assumes nothing.
use Rattle.std.specs.Prelude.{ℕ, ◌<◌, ◌≤◌, ◌≡◌, true, List, Option, Some, None}
use Rattle.outcomes.specs.Outcome.{done}
use Rattle.slices.specs.Record.{record_at}
use Rattle.seeking.specs.Seek.{numbered, seek_view}
use Rattle.slices.specs.Cover.{covers}
use Rattle.slices.specs.declared.Record.{Record}
use Rattle.seeking.specs.declared.Found.{Found}

-- r, given with the number k, is one of the first n segments of the row, and holds the position
pub record Holds (row : ℕ → Record) (n p k : ℕ) (r : Record) : Type 0 where
  pub within : k < n
  pub same : r ≡ row k
  pub held : covers r p ≡ true

-- f gives a segment, and it is the only one of the first n that holds the position
pub record TheOne (row : ℕ → Record) (n p : ℕ) (f : Option Found) : Type 0 where
  pub number : ℕ
  pub found : f ≡ Some (numbered number (row number))
  pub holds : Holds row n p number (row number)
  pub only : (j : ℕ) → j < n → covers (row j) p ≡ true → j ≡ number

-- "In a loaded row every position below the end finds its segment; those at or past it give "none"."
pub record Finds (row : ℕ → Record) (n l : ℕ) (search : ℕ → Option Found) : Type 0 where
  pub below : (p : ℕ) → p < l → TheOne row n p (search p)
  pub beyond : (p : ℕ) → l ≤ p → search p ≡ None

-- the same of bytes that hold n segments: no search in them is refused
pub record FindsIn (bs : List ℕ) (n l : ℕ) : Type 0 where
  pub found : ℕ → Option Found
  pub answers : (p : ℕ) → seek_view bs n p ≡ done (found p)
  pub finds : Finds (record_at bs) n l found
