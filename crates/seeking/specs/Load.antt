-- Loading a list's view into a lent row of segments (paper 02, L11): its refusals are the view's, and a row too short is 12 too. Assumes nothing.
use Rattle.std.specs.Prelude.{ℕ, ◌≡◌, Bool, List, [], ◌∷◌, ◌++◌, ltb, length, drop, Result, Ok, Err}
use Rattle.outcomes.specs.Outcome.{Refusal}
use Rattle.outcomes.specs.Numbers as number
use Rattle.outcomes.specs.Outcome.{Outcome, refused, done, Row, row, first_of}
use Rattle.outcomes.specs.Answers.{answer_of, left_in}
use Rattle.slices.specs.Record.{records, encode_all}
use Rattle.slices.specs.declared.Record.{Record}
use Rattle.views.specs.View.{view}
use Rattle.views.specs.Calls.{view_rows}

-- the row has fewer elements than the view has segments
unfoldable pub row_too_short : List ℕ → ℕ → ℕ → Bool
row_too_short bs l rows = ltb rows (length (view (records bs) l))

-- 7, 1, 2, 3 to 6, 16, 12: `room` bytes are lent for the view's bytes, and `rows` segments
unfoldable pub load_rows : List ℕ → ℕ → ℕ → ℕ → List Row
load_rows bs l room rows = view_rows bs l room ++ (row (row_too_short bs l rows) number.short_buffer 0 ∷ [])

unfoldable pub load_outcome : List ℕ → ℕ → ℕ → ℕ → Outcome (List Record)
load_outcome bs l room rows = first_of (load_rows bs l room rows) (done (view (records bs) l))

-- the answer: how many segments there are
abbrev pub loaded : Outcome (List Record) → Result ℕ Refusal
loaded o = answer_of Err (λ (vs : List Record). Ok (length vs)) o

-- the row afterwards: unchanged on a refusal; else the view's segments, and then the rest of the row as it was
unfoldable pub row_after : Outcome (List Record) → List Record → List Record
row_after (refused r) row = row
row_after (done vs) row = vs ++ drop (length vs) row

-- a load with the outcome o, lent these bytes and this row, answers x and leaves these bytes and this row
pub record Loads (o : Outcome (List Record)) (bytes : List ℕ) (row : List Record) (x : Result ℕ Refusal) (bytes_after : List ℕ) (after : List Record) : Type 0 where
  pub answers : x ≡ loaded o
  pub leaves : bytes_after ≡ left_in encode_all o bytes
  pub fills : after ≡ row_after o row
