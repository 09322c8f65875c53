-- What the call `read_plan` is to do: its refusals, in the order of paper 01, and its answer. Assumes nothing.
use Rattle.std.specs.Prelude.{ℕ, Bool, List, [], ◌∷◌, ◌++◌, ltb}
use Rattle.slices.specs.Limits.{max_index}
use Rattle.slices.specs.Record.{records}
use Rattle.outcomes.specs.Numbers as number
use Rattle.outcomes.specs.Outcome.{Outcome, done, Row, row, first_of, too_short}
use Rattle.slices.specs.Refusals.{list_rows, chunk_too_long}
use Rattle.blocks.specs.Blocks.{block_size_bad}
use Rattle.plans.specs.Piece.{chunk_bytes}
use Rattle.plans.specs.Plan.{read_plan}

-- 21 of a call on one chunk: an index past 32 bits
unfoldable pub past_index : ℕ → Bool
past_index index = ltb max_index index

-- the bytes of a read plan, with the chunk's index in each piece
unfoldable pub plan_bytes : List ℕ → (index l B start count : ℕ) → List ℕ
plan_bytes bs index l B start count = chunk_bytes index 0 (read_plan B (records bs) l start count)

-- 7, 21, 8, 1, 2, 3 to 6, 16: those of every read of one chunk
unfoldable pub chunk_rows : List ℕ → (index l B : ℕ) → List Row
chunk_rows bs index l B =
    row (chunk_too_long l) number.chunk_too_long 0
    ∷ row (past_index index) number.wrong_chunks 0
    ∷ row (block_size_bad B) number.block_size 0
    ∷ list_rows bs

-- and then 12; `room` is the length of the lent buffer
unfoldable pub read_rows : List ℕ → (index l B start count room : ℕ) → List Row
read_rows bs index l B start count room = chunk_rows bs index l B ++ (too_short (plan_bytes bs index l B start count) room ∷ [])

unfoldable pub read_outcome : List ℕ → (index l B start count room : ℕ) → Outcome (List ℕ)
read_outcome bs index l B start count room = first_of (read_rows bs index l B start count room) (done (plan_bytes bs index l B start count))
