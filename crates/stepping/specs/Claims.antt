-- What is to be believed of pieces one at a time, for every input that is not refused. `one_at_a_time` of proofs/Laws/Claims.antt proves it.
-- Assumes nothing.
use Rattle.std.specs.Prelude.{ℕ, ◌+◌, ◌-◌, ◌<◌, ◌≤◌, ◌≡◌, ◌↔◌, length}
use mathlib.Core.List.{List, [], ◌∷◌, ◌++◌, flat_map}
use Rattle.outcomes.specs.Outcome.{OutcomeOf, refused, done, NoneHolds, Given}
use Rattle.outcomes.specs.Outcome.{Refusal}
use Rattle.joined.specs.Refusals.{ListRefusal}
use Rattle.plans.specs.Calls.{chunk_rows, plan_bytes, read_outcome}
use Rattle.plans.specs.Piece.{encode_piece}
use Rattle.plans.specs.Plan.{cut_to}
use Rattle.files.specs.Calls.{lists_in, chunks_rows, file_bytes, file_outcome}
use Rattle.files.specs.File.{file_end}
use Rattle.stepping.specs.Step.{Step, given, finished, rest_of}
use Rattle.stepping.specs.Calls.{next_outcome, plan_pieces, next_file_outcome, file_pieces}
use Rattle.plans.specs.declared.Piece.{Piece}

module _ {R : Type 0} (next : ℕ → OutcomeOf R Step) where
  -- from the place `at` on, where each answer's place is passed again, these pieces are handed out, in order, "until nothing is left"
  abbrev pub HandsOut : ℕ → List Piece → Type 0
  HandsOut at [] = next at ≡ done finished
  HandsOut at (p ∷ ps) = (to : ℕ) × (next at ≡ done (given p to)) × HandsOut to ps

  -- what comes next at each place of a read of n bytes with this plan
  pub record PieceByPiece (plan : List Piece) (n : ℕ) : Type 0 where
    -- "From place 0, .. the pieces, in order, are exactly those of the whole plan", and no other pieces are
    pub one_by_one : HandsOut 0 plan
    pub only : (ps : List Piece) → HandsOut 0 ps → ps ≡ plan
    -- "A place inside a piece gives the rest of it", and the place behind the piece
    pub rest : (before after : List Piece) (p : Piece) → plan ≡ before ++ (p ∷ after) → (at : ℕ) → p.place ≤ at → at < p.place + p.len
        → next at ≡ done (given (rest_of p (at - p.place)) (p.place + p.len))
    -- from where on the pieces are those of the plan behind it
    pub follows : (before after : List Piece) (p : Piece) → plan ≡ before ++ (p ∷ after) → HandsOut (p.place + p.len) after
    -- "one at or past the end is finished and stays so"
    pub stays : (at : ℕ) → n ≤ at → next at ≡ done finished
    -- and no other is: each place before the end gives a piece that starts there, and the place behind it, no further than the end
    pub more : (at : ℕ) → at < n → (p : Piece) × (to : ℕ) × (next at ≡ done (given p to)) × (p.place ≡ at) × (at + p.len ≡ to) × (at < to) × (to ≤ n)

pub record OneAtATime : Type 0 where
  -- a read of one chunk
  pub chunk : (bs : List ℕ) (index l B start count : ℕ) → NoneHolds (chunk_rows bs index l B)
      → PieceByPiece (next_outcome bs index l B start count) (plan_pieces bs index l B start count) (cut_to l start count)
  pub chunk_bytes_lem : (bs : List ℕ) (index l B start count : ℕ) → flat_map encode_piece (plan_pieces bs index l B start count) ≡ plan_bytes bs index l B start count
  -- it is refused exactly in the case of a row, at every place, finished or not; these are the refusals of the whole plan, with room for it
  pub chunk_refused : (bs : List ℕ) (index l B start count at : ℕ) (r : Refusal)
      → (next_outcome bs index l B start count at ≡ refused r) ↔ Given (chunk_rows bs index l B) r
  pub chunk_alike : (bs : List ℕ) (index l B start count at room : ℕ) → length (plan_bytes bs index l B start count) ≤ room → (r : Refusal)
      → (next_outcome bs index l B start count at ≡ refused r) ↔ (read_outcome bs index l B start count room ≡ refused r)
  -- a read across the chunks of a file
  pub file : (bs lengths : List ℕ) (first file_len B start count : ℕ) → NoneHolds (chunks_rows bs lengths first B)
      → PieceByPiece (next_file_outcome bs lengths first file_len B start count) (file_pieces bs lengths first file_len B start count)
      (cut_to (file_end first file_len (length (lists_in bs lengths))) start count)
  pub file_bytes_lem : (bs lengths : List ℕ) (first file_len B start count : ℕ)
      → flat_map encode_piece (file_pieces bs lengths first file_len B start count) ≡ file_bytes bs lengths first file_len B start count
  pub file_refused : (bs lengths : List ℕ) (first file_len B start count at : ℕ) (r : ListRefusal)
      → (next_file_outcome bs lengths first file_len B start count at ≡ refused r) ↔ Given (chunks_rows bs lengths first B) r
  pub file_alike : (bs lengths : List ℕ) (first file_len B start count at room : ℕ) → length (file_bytes bs lengths first file_len B start count) ≤ room → (r : ListRefusal)
      → (next_file_outcome bs lengths first file_len B start count at ≡ refused r) ↔ (file_outcome bs lengths first file_len B start count room ≡ refused r)
