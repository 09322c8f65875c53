-- Compaction of the first k records of a list under a new id (paper 01, "Read plan and compaction plan"). No limit on the length of a list.
-- Assumes nothing.
use Rattle.std.specs.Prelude.{ℕ, ◌+◌, ◌-◌, cond, List, [], ◌∷◌, ◌++◌, take, drop}
use Rattle.slices.specs.Limits.{chunk}
use Rattle.slices.specs.Record.{encode_all}
use Rattle.runs.specs.Runs.{Run}
use Rattle.plans.specs.Piece.{chunk_bytes}
use Rattle.plans.specs.Plan.{read_plan}
use Rattle.compaction.specs.Span.{first_covered, last_covered, covers_nothing}
use Rattle.slices.specs.declared.Record.{Record}
use Rattle.plans.specs.declared.Location.{Location}

-- q - p + 1
unfoldable pub extent : List Record → ℕ
extent xs = last_covered xs - first_covered xs + 1

-- ---- the plan

-- of all records of a list: empty if they cover nothing; otherwise the read plan of p to q over them at full chunk length
unfoldable pub plan_of : ℕ → List Record → List (Run Location)
plan_of B xs = cond (covers_nothing xs) [] (read_plan B xs chunk (first_covered xs) (extent xs))

-- of the first k records
unfoldable pub compaction_plan : ℕ → List Record → ℕ → List (Run Location)
compaction_plan B rs k = plan_of B (take k rs)

-- ---- the new list

-- one record: pos p, new id, size and len q - p + 1, off 0
unfoldable pub new_record : List Record → ℕ → Record
new_record xs id = record { pos = first_covered xs; id = id; size = extent xs; off = 0; len = extent xs }

-- what takes the place of all records of a list: no record if they cover nothing, otherwise the one
unfoldable pub stand_in : List Record → ℕ → List Record
stand_in xs id = cond (covers_nothing xs) [] (new_record xs id ∷ [])

-- that of the first k records, and the remaining records
unfoldable pub new_list : List Record → ℕ → ℕ → List Record
new_list rs k id = stand_in (take k rs) id ++ drop k rs

-- ---- as bytes

-- the plan's, with the chunk's index in each piece
unfoldable pub plan_bytes : (index B : ℕ) → List Record → ℕ → List ℕ
plan_bytes index B rs k = chunk_bytes index 0 (compaction_plan B rs k)

unfoldable pub new_list_bytes : List Record → ℕ → ℕ → List ℕ
new_list_bytes rs k id = encode_all (new_list rs k id)
