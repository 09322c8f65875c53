-- What the calls `view` and `tidy` are to do: their refusals, in the order of paper 01, and their answers. Assumes nothing.
use Rattle.std.specs.Prelude.{ℕ, Bool, List, [], ◌∷◌, ◌++◌, ltb, length}
use Rattle.slices.specs.Record.{records, encode_all}
use Rattle.outcomes.specs.Numbers as number
use Rattle.outcomes.specs.Outcome.{Outcome, done, Row, row, first_of, too_short}
use Rattle.slices.specs.Refusals.{chunk_too_long, list_rows}
use Rattle.views.specs.View.{view, tidied, tidied_bytes}

-- the most records of a tidied list (refusal 11)
abbrev pub max_tidied : ℕ
max_tidied = 2048

-- 11: tidied list above 2,048 records
unfoldable pub tidied_too_long : List ℕ → Bool
tidied_too_long bs = ltb max_tidied (length (tidied (records bs)))

-- ---- view

-- the bytes of a list's view
unfoldable pub view_bytes : List ℕ → ℕ → List ℕ
view_bytes bs l = encode_all (view (records bs) l)

-- 7, 1, 2, 3 to 6, 16, 12; `room` is the length of the lent buffer
unfoldable pub view_rows : List ℕ → ℕ → ℕ → List Row
view_rows bs l room = row (chunk_too_long l) number.chunk_too_long 0 ∷ (list_rows bs ++ (too_short (view_bytes bs l) room ∷ []))

unfoldable pub view_outcome : List ℕ → ℕ → ℕ → Outcome (List ℕ)
view_outcome bs l room = first_of (view_rows bs l room) (done (view_bytes bs l))

-- ---- tidy

-- 1, 2, 3 to 6, 16, 11, 12
unfoldable pub tidy_rows : List ℕ → ℕ → List Row
tidy_rows bs room = list_rows bs ++ (row (tidied_too_long bs) number.tidied_too_long 0 ∷ too_short (tidied_bytes (records bs)) room ∷ [])

unfoldable pub tidy_outcome : List ℕ → ℕ → Outcome (List ℕ)
tidy_outcome bs room = first_of (tidy_rows bs room) (done (tidied_bytes (records bs)))
