-- What the call `file_plan` is to do: its refusals, in the order of paper 02 (L9), and its answer. Assumes nothing.
use Rattle.std.specs.Prelude.{ℕ, ◌+◌, ◌-◌, Bool, ◌||◌, not, List, [], ◌∷◌, ◌++◌, map, ltb, eqb, length, Result, Ok, Err}
use Rattle.slices.specs.Limits.{max_index}
use Rattle.slices.specs.Record.{records}
use Rattle.outcomes.specs.Numbers as number
use Rattle.outcomes.specs.Outcome.{OutcomeOf, done, RowOf, row, first_of, too_short}
use Rattle.outcomes.specs.Answers.{lent, Replies}
use Rattle.blocks.specs.Blocks.{block_size_bad}
use Rattle.joined.specs.Lists.{total, parts}
use Rattle.joined.specs.Refusals.{row_of, lists_rows}
use Rattle.joined.specs.Refusals.{ListRefusal}
use Rattle.plans.specs.Piece.{encode_pieces}
use Rattle.files.specs.Limits.{max_lists}
use Rattle.files.specs.File.{file_plan}
use Rattle.slices.specs.declared.Record.{Record}

-- 21: another number of lists than 1 to 16, lengths that don't add up to the bytes lent, or an index past 32 bits
unfoldable pub wrong_chunks : List ℕ → (bytes first : ℕ) → Bool
wrong_chunks lengths bytes first =
    eqb (length lengths) 0 || (ltb max_lists (length lengths) || (not (eqb (total lengths) bytes) || ltb max_index (first + length lengths - 1)))

-- the lists that the joined bytes hold
unfoldable pub lists_in : List ℕ → List ℕ → List (List Record)
lists_in bs lengths = map records (parts lengths bs)

-- the bytes of the plan
unfoldable pub file_bytes : List ℕ → List ℕ → (first file_len B start count : ℕ) → List ℕ
file_bytes bs lengths first file_len B start count = encode_pieces (file_plan first B (lists_in bs lengths) file_len start count)

-- delivered into a buffer of `room` bytes
abbrev pub delivered_file : List ℕ → ℕ → OutcomeOf ListRefusal (List ℕ)
delivered_file bytes room = first_of (row_of 0 (too_short bytes room) ∷ []) (done bytes)

-- 21, 8, list by list 1, 2, 3 to 6, 16: those of every read across chunks; "0 where no list is at fault"
unfoldable pub chunks_rows : List ℕ → List ℕ → (first B : ℕ) → List (RowOf ListRefusal)
chunks_rows bs lengths first B =
    row_of 0 (row (wrong_chunks lengths (length bs) first) number.wrong_chunks 0)
    ∷ row_of 0 (row (block_size_bad B) number.block_size 0)
    ∷ lists_rows first (parts lengths bs)

-- and then 12; `room` is the length of the lent buffer
unfoldable pub file_rows : List ℕ → List ℕ → (first file_len B start count room : ℕ) → List (RowOf ListRefusal)
file_rows bs lengths first file_len B start count room =
    chunks_rows bs lengths first B ++ (row_of 0 (too_short (file_bytes bs lengths first file_len B start count) room) ∷ [])

unfoldable pub file_outcome : List ℕ → List ℕ → (first file_len B start count room : ℕ) → OutcomeOf ListRefusal (List ℕ)
file_outcome bs lengths first file_len B start count room =
    first_of (file_rows bs lengths first file_len B start count room) (done (file_bytes bs lengths first file_len B start count))

-- ---- what it returns and leaves

-- it says how many bytes it wrote
abbrev pub wrote_many : List ℕ → Result ℕ ListRefusal
wrote_many bs = Ok (length bs)

-- a call with the outcome o, lent the buffer `before`, answers a and leaves `after`
abbrev pub AnswersFile : OutcomeOf ListRefusal (List ℕ) → List ℕ → Result ℕ ListRefusal → List ℕ → Type 0
AnswersFile o before a after = Replies Err wrote_many o (lent (λ bs. bs) before after ∷ []) a
