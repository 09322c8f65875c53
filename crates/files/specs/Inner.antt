-- Inner: what the steps of the code find. It serves the contracts of inner functions alone. Assumes nothing.
use Rattle.std.specs.Prelude.{ℕ, ◌+◌, ◌<◌, ◌≤◌, List, map, length}
use Rattle.slices.specs.Accepts.{Accepts}
use Rattle.slices.specs.Record.{records, count}
use Rattle.plans.specs.Piece.{encode_pieces}
use Rattle.files.specs.File.{chunk_plans}

-- room to resolve a list of n records
pub record Room (n : ℕ) (marks tops pos ends order spare : List ℕ) : Type 0 where
  pub marks_fit : n + n + 1 < length marks
  pub tops_fit : n + n < length tops
  pub pos_fit : n ≤ length pos
  pub ends_fit : n ≤ length ends
  pub order_fit : n ≤ length order
  pub spare_fit : n ≤ length spare

-- a list that is accepted, and that there is room for
abbrev pub Resolvable : (marks tops pos ends order spare : List ℕ) → List ℕ → Type 0
Resolvable marks tops pos ends order spare l = Accepts l × Room (count l) marks tops pos ends order spare

-- a list that is accepted, of at most n records
abbrev pub Fits : ℕ → List ℕ → Type 0
Fits n l = Accepts l × (count l ≤ n)

-- the bytes of the plan of lists, of which the first is that of chunk k, for the positions from `from` up to `end`
abbrev pub bytes_of : (first B from end k : ℕ) → List (List ℕ) → List ℕ
bytes_of first B from end k ls = encode_pieces (chunk_plans first B from end k (map records ls))
