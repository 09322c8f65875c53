-- Inner: what the steps of the code find. It serves the contracts of inner functions alone. Assumes nothing.
use Rattle.std.specs.Prelude.{ℕ, ◌+◌, ◌≤◌, ◌≡◌, List, [], length, get_or, take, drop}
use Rattle.runs.specs.Inner.{Leads}
use Rattle.slices.specs.Record.{records}
use Rattle.joined.specs.Lists.{parts}
use Rattle.resolve.specs.Resolved.{OnTop}
use Rattle.plans.specs.Location.{location_at, next_location}
use Rattle.plans.specs.Piece.{piece_of}
use Rattle.slices.specs.declared.Record.{Record}
use Rattle.plans.specs.declared.Piece.{Piece}

-- the maximal run of a list's locations from position p on, and before `end`, as a piece with this index and place
pub record PieceFrom (B : ℕ) (rs : List Record) (index place p end : ℕ) (piece : Piece) : Type 0 where
  pub is : piece ≡ piece_of index place piece.len (location_at B rs p)
  pub leads : Leads next_location (location_at B rs) p end (location_at B rs p) (p + piece.len)

-- the record `top`, counted from 1, lies on top of position p, and the maximal run of locations from there on, and before `end`, ends before e
pub record EndsAt (B : ℕ) (bs : List ℕ) (p end top e : ℕ) : Type 0 where
  pub on_top : OnTop bs top p (p + 1)
  pub leads : Leads next_location (location_at B (records bs)) p end (location_at B (records bs) p) e

-- list k begins at `at` in the bytes of all lists
pub record Behind (bs lengths : List ℕ) (k at : ℕ) : Type 0 where
  pub within : at + get_or lengths k 0 ≤ length bs
  pub is : get_or (parts lengths bs) k [] ≡ take (get_or lengths k 0) (drop at bs)
