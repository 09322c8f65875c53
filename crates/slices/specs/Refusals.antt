-- When a list is refused: the rows 1 to 6 of paper 01's table, in its order, then 16 of paper 02 (L8); and when a chunk length is, 7. Assumes nothing.
use Rattle.std.specs.Prelude.{ℕ, suc, ◌+◌, ◌%◌, Bool, false, ◌&&◌, ◌||◌, not, List, [], ◌∷◌, ◌++◌, ltb, eqb, length, Result, Ok, Err}
use Rattle.outcomes.specs.Outcome.{Refusal}
use Rattle.slices.specs.Limits.{record_size, chunk, max_records}
use Rattle.slices.specs.Record.{count, records}
use Rattle.outcomes.specs.Numbers as number
use Rattle.outcomes.specs.Outcome.{Outcome, done, Row, row, first_of}
use Rattle.outcomes.specs.Answers.{answer_of}
use Rattle.slices.specs.declared.Record.{Record}

-- ---- the tests

-- 1: list length is no multiple of 24
unfoldable pub not_whole : List ℕ → Bool
not_whole bs = not (eqb (length bs % record_size) 0)

-- 2: more than 2,048 records
unfoldable pub too_many : List ℕ → Bool
too_many bs = ltb max_records (count bs)

-- 3: pos + len above 64 MiB
unfoldable pub past_chunk : Record → Bool
past_chunk r = ltb chunk (r.pos + r.len)

-- 4: size above 64 MiB
unfoldable pub too_large : Record → Bool
too_large r = ltb chunk r.size

-- 5: id 0 with off not 0, or with a size that is neither 0 nor len
unfoldable pub zeros_with_slice : Record → Bool
zeros_with_slice r = eqb r.id 0 && (not (eqb r.off 0) || (not (eqb r.size 0) && not (eqb r.size r.len)))

-- 6: id not 0 and off + len above size
unfoldable pub past_slice : Record → Bool
past_slice r = not (eqb r.id 0) && ltb r.size (r.off + r.len)

-- two records are of one slice and give it two sizes
unfoldable pub other_size : Record → Record → Bool
other_size e r = not (eqb r.id 0) && (eqb e.id r.id && not (eqb e.size r.size))

-- 16: an earlier record has this id, not 0, and another size
unfoldable pub two_sizes : List Record → Record → Bool
two_sizes [] r = false
two_sizes (e ∷ earlier) r = other_size e r || two_sizes earlier r

-- 7: chunk length above 64 MiB
unfoldable pub chunk_too_long : ℕ → Bool
chunk_too_long l = ltb chunk l

-- ---- the tables

-- the refusals of the record at a place
abbrev pub record_rows : ℕ → Record → List Row → List Row
record_rows at r rest =
    row (past_chunk r) number.past_chunk at
    ∷ row (too_large r) number.too_large at
    ∷ row (zeros_with_slice r) number.zeros_with_slice at
    ∷ row (past_slice r) number.past_slice at
    ∷ rest

-- record by record, with their places counted on from `at`
unfoldable pub rows_from : ℕ → List Record → List Row
rows_from at [] = []
rows_from at (r ∷ rs) = record_rows at r (rows_from (suc at) rs)

-- each record against those before it, with their places counted on from `at`
unfoldable pub size_rows : List Record → ℕ → List Record → List Row
size_rows earlier at [] = []
size_rows earlier at (r ∷ rs) = row (two_sizes earlier r) number.two_sizes at ∷ size_rows (earlier ++ (r ∷ [])) (suc at) rs

-- the refusals that every call on a list has: 16 "after 3 to 6 have passed for the whole list"
unfoldable pub list_rows : List ℕ → List Row
list_rows bs =
    row (not_whole bs) number.not_whole 0
    ∷ row (too_many bs) number.too_many 0
    ∷ (rows_from 0 (records bs) ++ size_rows [] 0 (records bs))

-- ---- the check of a list

-- how many records a list has, or its refusal
unfoldable pub check_outcome : List ℕ → Outcome ℕ
check_outcome bs = first_of (list_rows bs) (done (count bs))

-- the answer of the check
abbrev pub checked : Outcome ℕ → Result ℕ Refusal
checked o = answer_of Err Ok o
