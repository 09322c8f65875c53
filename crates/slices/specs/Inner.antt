-- Inner: what the steps of the code find. It serves the contracts of inner functions alone. Assumes nothing.
use Rattle.std.specs.Prelude.{ℕ, ◌-◌, ◌<◌, ◌≤◌, ◌≡◌, ◌≢◌, cond, List, [], eqb}
use Rattle.outcomes.specs.Numbers as number
use Rattle.outcomes.specs.Outcome.{Outcome, refused, done, refusal, first_of}
use Rattle.slices.specs.Record.{record_at, records_from, count, records}
use Rattle.slices.specs.OneSize.{Agree}
use Rattle.slices.specs.Refusals.{past_chunk, too_large, zeros_with_slice, past_slice, rows_from, size_rows}
use Rattle.slices.specs.declared.Record.{Record}

-- the number of the first of refusals 3 to 6 that a record meets, or 0
unfoldable pub fault : Record → ℕ
fault r =
    cond (past_chunk r) number.past_chunk
    (cond (too_large r) number.too_large
    (cond (zeros_with_slice r) number.zeros_with_slice
    (cond (past_slice r) number.past_slice 0)))

-- the number with which the record at a place is refused, where one is: its own, or else 16
unfoldable pub number_at : List ℕ → ℕ → ℕ
number_at bs p = cond (eqb (fault (record_at bs p)) 0) number.two_sizes (fault (record_at bs p))

-- ---- refusal 16

-- how many records a list has, or refusal 16 at the first that disagrees with an earlier one
unfoldable pub size_outcome : List ℕ → Outcome ℕ
size_outcome bs = first_of (size_rows [] 0 (records bs)) (done (count bs))

-- p is the place of that record, or how many there are
pub record FirstOther (bs : List ℕ) (p : ℕ) : Type 0 where
  pub within : p ≤ count bs
  pub says : size_outcome bs ≡ cond (eqb p (count bs)) (done (count bs)) (refused (refusal number.two_sizes p))

-- each of the first i records agrees with those before it
abbrev pub Agreed : List ℕ → ℕ → Type 0
Agreed bs i = (j : ℕ) → j < i → (k : ℕ) → k < j → Agree (record_at bs j) (record_at bs k)

-- the first of the records before i that has the id, or i
pub record FirstWith (bs : List ℕ) (i id first : ℕ) : Type 0 where
  pub within : first ≤ i
  pub has : first < i → (record_at bs first).id ≡ id
  pub none : (j : ℕ) → j < first → (record_at bs j).id ≢ id

-- stands for the highest id once one has not risen: the largest number of 64 bits
abbrev pub fell : ℕ
fell = 18446744073709551615

-- the ids before i are at most `last`, and the records agree
pub record Risen (bs : List ℕ) (i last : ℕ) : Type 0 where
  pub most : (j : ℕ) → j < i → (record_at bs j).id ≤ last
  pub agreed : Agreed bs i

-- ---- refusals 3 to 6 and 16

-- the check of the records from i on for 3 to 6, and then of all for 16
unfoldable pub check_from : List ℕ → ℕ → Outcome ℕ
check_from bs i = first_of (rows_from i (records_from bs i (count bs - i))) (size_outcome bs)

-- so few records may be compared pair by pair: longer lists must not cost a square
abbrev pub few : ℕ
few = 16

-- the first i records pass 3 to 6
abbrev pub Passed : List ℕ → ℕ → Type 0
Passed bs i = (j : ℕ) → j < i → fault (record_at bs j) ≡ 0

-- they pass and agree
pub record Sound (bs : List ℕ) (i : ℕ) : Type 0 where
  pub within : i ≤ count bs
  pub passed : Passed bs i
  pub agreed : Agreed bs i

-- p is the place of the first refused record, or how many there are
pub record FirstRefused (bs : List ℕ) (p : ℕ) : Type 0 where
  pub within : p ≤ count bs
  pub says : check_from bs 0 ≡ cond (eqb p (count bs)) (done (count bs)) (refused (refusal (number_at bs p) p))
