-- Inner: what the steps of a load leave. It serves the contracts of inner functions alone. Assumes nothing.
use Rattle.std.specs.Prelude.{ℕ, ◌*◌, ◌≤◌, ◌≡◌, List, ◌++◌, drop, Result, Ok, Err}
use Rattle.outcomes.specs.Outcome.{Refusal}
use Rattle.outcomes.specs.Outcome.{Outcome}
use Rattle.outcomes.specs.Answers.{left_in}
use Rattle.slices.specs.Limits.{record_size}
use Rattle.slices.specs.Record.{records_from, encode_all, count}
use Rattle.slices.specs.declared.Record.{Record}
use Rattle.seeking.specs.Load.{loaded, row_after}

-- r bytes have room for as many records as both a buffer of `bytes` bytes and a row of `rows` elements have
pub record RoomFor (bytes rows r : ℕ) : Type 0 where
  pub within : r ≤ bytes
  pub both : (m : ℕ) → m * record_size ≤ r → (m * record_size ≤ bytes) × (m ≤ rows)
  pub fits : (m : ℕ) → m * record_size ≤ bytes → m ≤ rows → m * record_size ≤ r

-- how many segments were loaded
unfoldable pub segments_in : Result ℕ Refusal → ℕ
segments_in (Ok n) = n
segments_in (Err r) = 0

-- a row whose first i elements are records of bytes
unfoldable pub filled : List ℕ → List Record → ℕ → List Record
filled bs row i = records_from bs 0 i ++ drop i row

-- a view's bytes are written where a load has the outcome o: from them a row of `rows` elements is filled as the outcome says
pub record Within (o : Outcome (List Record)) (rows : ℕ) (before : List ℕ) (x : Result ℕ Refusal) (after : List ℕ) : Type 0 where
  pub answers : x ≡ loaded o
  pub leaves : after ≡ left_in encode_all o before
  pub written : segments_in x ≤ count after
  pub room : segments_in x ≤ rows
  pub fills : (row : List Record) → filled after row (segments_in x) ≡ row_after o row
