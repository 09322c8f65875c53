-- Which segment of a row holds a position, found by halving (paper 02, L11). A segment is a record of a view. The row may be anything: a segment that
-- is given was tested, and proofs/Laws/Loaded.antt shows that in a view's own records every position below its end is found. Assumes nothing.
use Rattle.std.specs.Prelude.{ℕ, zero, suc, ◌+◌, ◌-◌, ◌/◌, min, cond, List, [], ◌∷◌, ltb, eqb, length, get_or, Option, Some, None, Result, Ok, Err}
use Rattle.outcomes.specs.Numbers as number
use Rattle.outcomes.specs.Outcome.{Outcome, done, row, first_of}
use Rattle.outcomes.specs.Answers.{answer_of}
use Rattle.slices.specs.Cover.{covers}
use Rattle.slices.specs.Record.{count, record_at}
use Rattle.slices.specs.Refusals.{not_whole}
use Rattle.slices.specs.declared.Record.{Record}
use Rattle.seeking.specs.declared.Found.{Found}
use Rattle.outcomes.specs.Outcome.{Refusal}

-- ---- by halving

-- the number in the middle of low up to high
unfoldable pub middle : ℕ → ℕ → ℕ
middle low high = low + (high - low) / 2

-- of the numbers from low up to high, the one at which halving ends; `first i` is the first position of segment i, and n is how often to halve at most
unfoldable pub halve : (ℕ → ℕ) → ℕ → ℕ → ℕ → ℕ → ℕ
unfolding middle
halve first p zero low high = low
halve first p (suc n) low high =
    let lower = halve first p n low (middle low high) in
    let upper = halve first p n (middle low high) high in
    cond (ltb (low + 1) high) (cond (ltb p (first (middle low high))) lower upper) low

-- ---- the segment

-- a segment with its number
abbrev pub numbered : ℕ → Record → Found
numbered k r = record { number = k; segment = r }

-- segment k, if it holds the position: pos + len is a sum of mathematics
unfoldable pub if_held : ℕ → ℕ → Record → Option Found
if_held p k r = cond (covers r p) (Some (numbered k r)) None

-- of the first n segments of a row, the one that holds the position
unfoldable pub seek : (ℕ → Record) → ℕ → ℕ → Option Found
unfolding halve
seek row n p =
    let k = halve (λ (i : ℕ). (row i).pos) p n 0 n in
    cond (eqb n 0) None (if_held p k (row k))

-- ---- in a lent row

-- what stands for a segment outside a row; it is never looked at
abbrev pub no_segment : Record
no_segment = record { pos = 0; id = 0; size = 0; off = 0; len = 0 }

-- a number above the row's length counts as that length
unfoldable pub seek_row : List Record → ℕ → ℕ → Option Found
seek_row rs number p = seek (λ (i : ℕ). get_or rs i no_segment) (min number (length rs)) p

-- ---- in the bytes of a view

-- refusal 1 for bytes that are no whole records ("nothing is read halfway"); a number above that of the records counts as that number
unfoldable pub seek_view : List ℕ → ℕ → ℕ → Outcome (Option Found)
seek_view bs segments p = first_of (row (not_whole bs) number.not_whole 0 ∷ []) (done (seek (record_at bs) (min segments (count bs)) p))

-- the answer of the call
abbrev pub sought : Outcome (Option Found) → Result (Option Found) Refusal
sought o = answer_of Err Ok o
