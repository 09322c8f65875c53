-- What the call `compact` is to do: its refusals, in the order of paper 01, its two answers and its two buffers. Assumes nothing.
use Rattle.std.specs.Prelude.{ℕ, Bool, ◌||◌, List, [], ◌∷◌, ◌++◌, ltb, eqb, length, Result, Ok, Err}
use Rattle.slices.specs.Record.{records}
use Rattle.slices.specs.Ids.{stands}
use Rattle.outcomes.specs.Numbers as number
use Rattle.outcomes.specs.Outcome.{Outcome, done, Row, row, first_of, too_short}
use Rattle.outcomes.specs.Answers.{answer_of, lent, Replies}
use Rattle.slices.specs.Refusals.{list_rows}
use Rattle.blocks.specs.Blocks.{block_size_bad}
use Rattle.plans.specs.Calls.{past_index}
use Rattle.compaction.specs.Compaction.{plan_bytes, new_list_bytes}
use Rattle.slices.specs.declared.Record.{Record}
use Rattle.compaction.specs.declared.Compacted.{Compacted}
use Rattle.outcomes.specs.Outcome.{Refusal}

-- ---- the tests

-- 10: k above the number of records
unfoldable pub too_few : List Record → ℕ → Bool
too_few rs k = ltb (length rs) k

-- 9: new id is 0 or stands in any record of the list, empty ones included
unfoldable pub id_in_use : ℕ → List Record → Bool
id_in_use id rs = eqb id 0 || stands id rs

-- ---- the two answers

pub record Both : Type 0 where
  pub plan : List ℕ
  pub list : List ℕ

-- of the compaction of the first k of the records rs, of the chunk with this index
unfoldable pub both : (index B : ℕ) → List Record → ℕ → ℕ → Both
both index B rs k id = record { plan = plan_bytes index B rs k; list = new_list_bytes rs k id }

-- 12: an output buffer shorter than its answer (either of the two, in compaction)
abbrev pub room_rows : Both → (plan_room list_room : ℕ) → List Row
room_rows b plan_room list_room = too_short b.plan plan_room ∷ too_short b.list list_room ∷ []

-- both, delivered into buffers of these lengths
abbrev pub delivered_both : Both → (plan_room list_room : ℕ) → Outcome Both
delivered_both b plan_room list_room = first_of (room_rows b plan_room list_room) (done b)

-- ---- the call

-- 10, 9, 12; `plan_room` and `list_room` are the lengths of the lent buffers
unfoldable pub later_rows : List Record → (index B k id plan_room list_room : ℕ) → List Row
later_rows rs index B k id plan_room list_room =
    row (too_few rs k) number.too_few 0
    ∷ row (id_in_use id rs) number.id_in_use 0
    ∷ room_rows (both index B rs k id) plan_room list_room

-- 21, 8, 1, 2, 3 to 6, 16, 10, 9, 12
unfoldable pub compact_rows : List ℕ → (index B k id plan_room list_room : ℕ) → List Row
compact_rows bs index B k id plan_room list_room =
    row (past_index index) number.wrong_chunks 0
    ∷ row (block_size_bad B) number.block_size 0
    ∷ (list_rows bs ++ later_rows (records bs) index B k id plan_room list_room)

unfoldable pub compact_outcome : List ℕ → (index B k id plan_room list_room : ℕ) → Outcome Both
compact_outcome bs index B k id plan_room list_room = first_of (compact_rows bs index B k id plan_room list_room) (done (both index B (records bs) k id))

-- ---- what it returns and leaves

-- it says how many bytes of each answer it wrote
abbrev pub wrote : ℕ → ℕ → Result Compacted Refusal
wrote m n = Ok (record { plan = m; list = n })

abbrev pub how_many_of_each : Both → Result Compacted Refusal
how_many_of_each b = wrote (length b.plan) (length b.list)

abbrev pub compact_answer : Outcome Both → Result Compacted Refusal
compact_answer o = answer_of Err how_many_of_each o

-- a call with the outcome o, lent the buffers `plan` and `list`, answers a and leaves `plan'` and `list'`
abbrev pub Compacts : Outcome Both → (plan list : List ℕ) → Result Compacted Refusal → (plan' list' : List ℕ) → Type 0
Compacts o plan list a plan' list' = Replies Err how_many_of_each o (lent (λ (b : Both). b.plan) plan plan' ∷ lent (λ (b : Both). b.list) list list' ∷ []) a
