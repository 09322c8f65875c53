-- The starred cases of paper 01 ("Takes we tried on paper"), as one table. What the paper leaves open is chosen here: the slice that is hidden in
-- part is slice 7 of 16 bytes. Assumes nothing.
use Rattle.std.specs.Prelude.{ℕ, ◌*◌, ◌≡◌, List, [], ◌∷◌, length}
use Rattle.codec.specs.All.{All}
use Rattle.slices.specs.Passes.{Passes}
use Rattle.slices.specs.Limits.{record_size}
use Rattle.slices.specs.Record.{encode_all, records}
use Rattle.outcomes.specs.Numbers as number
use Rattle.outcomes.specs.Outcome.{Outcome, refused, done, refusal}
use Rattle.slices.specs.Refusals.{check_outcome}
use Rattle.views.specs.Calls.{view_outcome}
use Rattle.keys.specs.Keys.{Chunk, chunk, read_redis}
use Rattle.names.specs.Names.{write_object}
use Rattle.slices.specs.declared.Record.{Record}

-- a case, with what it gives
pub data Case : Type 0 where
  -- the check of a list's bytes
  checked : List ℕ → Outcome ℕ → Case
  -- the check of every list of so many bytes
  checked_all : ℕ → Outcome ℕ → Case
  -- the same, where its records pass
  checked_passing : ℕ → Outcome ℕ → Case
  -- the view of records for a chunk length, into a buffer that just holds it
  viewed : List Record → ℕ → List Record → Case
  -- the reading of a Redis key
  key_read : List ℕ → Outcome Chunk → Case
  -- the name of an object, by its id, block and block length
  named : ℕ → ℕ → ℕ → List ℕ → Case

-- what a case says of the definitions
unfoldable pub Holds : Case → Type 0
Holds (checked bs o) = check_outcome bs ≡ o
Holds (checked_all n o) = (bs : List ℕ) → length bs ≡ n → check_outcome bs ≡ o
Holds (checked_passing n o) = (bs : List ℕ) → length bs ≡ n → All Passes (records bs) → check_outcome bs ≡ o
Holds (viewed rs l runs) = view_outcome (encode_all rs) l (length runs * record_size) ≡ done (encode_all runs)
Holds (key_read key o) = read_redis key ≡ o
Holds (named id block len name) = write_object id block len (length name) ≡ done name

-- a record by its fields, in the order of its bytes
abbrev pub rec : ℕ → ℕ → ℕ → ℕ → ℕ → Record
rec p i s o l = record { pos = p; id = i; size = s; off = o; len = l }

unfoldable pub table : List Case
table =
    -- empty list, L = 0: no runs; L = 5: one uncovered run
    viewed [] 0 []
    ∷ viewed [] 5 (rec 0 0 5 0 5 ∷ [])
    -- 24 bytes accepted if the record is; 23 and 25 give 1
    ∷ checked_passing 24 (done 1)
    ∷ checked_all 23 (refused (refusal number.not_whole 0))
    ∷ checked_all 25 (refused (refusal number.not_whole 0))
    -- zeros (id, size and off 0) at pos 67,108,863, len 1 pass; len 2 gives 3
    ∷ checked (encode_all (rec 67108863 0 0 0 1 ∷ [])) (done 1)
    ∷ checked (encode_all (rec 67108863 0 0 0 2 ∷ [])) (refused (refusal number.past_chunk 0))
    -- pos 0, id 7, size 10, off 4, len 6 passes; len 7 gives 6
    ∷ checked (encode_all (rec 0 7 10 4 6 ∷ [])) (done 1)
    ∷ checked (encode_all (rec 0 7 10 4 7 ∷ [])) (refused (refusal number.past_slice 0))
    -- id 0, size 0, len 8 over a slice hides eight of its bytes
    ∷ viewed (rec 0 7 16 0 16 ∷ rec 4 0 0 0 8 ∷ []) 16 (rec 0 7 16 0 4 ∷ rec 4 0 0 0 8 ∷ rec 12 7 16 12 4 ∷ [])
    -- Redis key `c100_0` is inode 100, index 0; `c100_0,5` and `c0100_0` give 13
    ∷ key_read (99 ∷ 49 ∷ 48 ∷ 48 ∷ 95 ∷ 48 ∷ []) (done (chunk 100 0))
    ∷ key_read (99 ∷ 49 ∷ 48 ∷ 48 ∷ 95 ∷ 48 ∷ 44 ∷ 53 ∷ []) (refused (refusal number.not_of_form 0))
    ∷ key_read (99 ∷ 48 ∷ 49 ∷ 48 ∷ 48 ∷ 95 ∷ 48 ∷ []) (refused (refusal number.not_of_form 0))
    -- id 1234567, block 2, length 100: `chunks/1/1234/1234567_2_100`
    ∷ named 1234567 2 100 (99 ∷ 104 ∷ 117 ∷ 110 ∷ 107 ∷ 115 ∷ 47 ∷ 49 ∷ 47 ∷ 49 ∷ 50 ∷ 51 ∷ 52 ∷ 47 ∷ 49 ∷ 50 ∷ 51 ∷ 52 ∷ 53 ∷ 54 ∷ 55 ∷ 95 ∷ 50 ∷ 95 ∷ 49 ∷ 48 ∷ 48 ∷ [])
    ∷ []
