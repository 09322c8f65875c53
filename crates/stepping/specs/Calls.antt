-- What the methods `next_piece` and `next_file_piece` are to do: their refusals, and their answers. Assumes nothing.
use Rattle.std.specs.Prelude.{ℕ, List, map, length, Option, Some, None, Result, Ok, Err}
use Rattle.slices.specs.Record.{records}
use Rattle.outcomes.specs.Outcome.{OutcomeOf, Outcome, done, first_of}
use Rattle.outcomes.specs.Answers.{answer_of}
use Rattle.joined.specs.Refusals.{ListRefusal}
use Rattle.plans.specs.Calls.{chunk_rows}
use Rattle.plans.specs.Piece.{in_chunk}
use Rattle.plans.specs.Plan.{cut_to, read_plan}
use Rattle.files.specs.Calls.{lists_in, chunks_rows}
use Rattle.files.specs.File.{site_from, file_end, file_plan}
use Rattle.stepping.specs.Step.{Step, given, finished, piece_in, next_step, chunk_site}
use Rattle.plans.specs.declared.Piece.{Piece}
use Rattle.outcomes.specs.Outcome.{Refusal}
use Rattle.stepping.specs.declared.Given.{Given}

-- ---- a read of one chunk

-- 7, 21, 8, 1, 2, 3 to 6, 16; nothing is written, so there is no 12
unfoldable pub next_outcome : List ℕ → (index l B start count at : ℕ) → Outcome Step
next_outcome bs index l B start count at =
    first_of (chunk_rows bs index l B) (done (next_step (chunk_site index B (records bs) start) (cut_to l start count) at))

-- the pieces of the whole plan
unfoldable pub plan_pieces : List ℕ → (index l B start count : ℕ) → List Piece
plan_pieces bs index l B start count = map piece_in (map (in_chunk index 0) (read_plan B (records bs) l start count))

-- a piece with the place behind it, if one is left
unfoldable pub as_given : Step → Option Given
as_given (given piece place) = Some (record { piece = piece; next = record { at = place } })
as_given finished = None

abbrev pub next_answer : Outcome Step → Result (Option Given) Refusal
next_answer o = answer_of Err (λ (s : Step). Ok (as_given s)) o

-- ---- a read across the chunks of a file

-- 21, 8, list by list 1, 2, 3 to 6, 16
unfoldable pub next_file_outcome : List ℕ → List ℕ → (first file_len B start count at : ℕ) → OutcomeOf ListRefusal Step
next_file_outcome bs lengths first file_len B start count at =
    first_of (chunks_rows bs lengths first B)
    (done (next_step (site_from first B (lists_in bs lengths) start) (cut_to (file_end first file_len (length (lists_in bs lengths))) start count) at))

unfoldable pub file_pieces : List ℕ → List ℕ → (first file_len B start count : ℕ) → List Piece
file_pieces bs lengths first file_len B start count = map piece_in (file_plan first B (lists_in bs lengths) file_len start count)

abbrev pub next_file_answer : OutcomeOf ListRefusal Step → Result (Option Given) ListRefusal
next_file_answer o = answer_of Err (λ (s : Step). Ok (as_given s)) o
