-- When one of several lists is refused: list by list, each with the rows that it has by itself, and with its index (paper 02, L9). Assumes nothing.
use Rattle.std.specs.Prelude.{ℕ, suc, ◌+◌, ◌≡◌, List, [], ◌∷◌, ◌++◌, map, length, Result, Ok, Err}
use Rattle.codec.specs.All.{All}
use Rattle.outcomes.specs.Outcome.{OutcomeOf, refused, done, RowOf, Refusal, Row, first_of}
use Rattle.outcomes.specs.Answers.{answer_of}
use Rattle.slices.specs.Accepts.{Accepts}
use Rattle.slices.specs.Refusals.{list_rows, check_outcome}

-- a refusal, and the index of the list that it speaks of
pub record ListRefusal : Type 0 where
  pub number : ℕ
  pub place : ℕ
  pub index : ℕ

-- a refusal of the list with this index: its place is counted in that list
abbrev pub of_list : ℕ → Refusal → ListRefusal
of_list i r = record { number = r.number; place = r.place; index = i }

abbrev pub row_of : ℕ → Row → RowOf ListRefusal
row_of i r = record { test = r.test; gives = of_list i r.gives }

-- a table of refusals that speak of the list with this index
unfoldable pub rows_of : ℕ → List Row → List (RowOf ListRefusal)
rows_of i rows = map (row_of i) rows

-- "list by list": the refusals of lists with the indexes i, i + 1, ..
unfoldable pub lists_rows : ℕ → List (List ℕ) → List (RowOf ListRefusal)
lists_rows i [] = []
lists_rows i (l ∷ ls) = rows_of i (list_rows l) ++ lists_rows (suc i) ls

-- how many lists there are, or the refusal
unfoldable pub lists_outcome : ℕ → List (List ℕ) → OutcomeOf ListRefusal ℕ
lists_outcome i ls = first_of (lists_rows i ls) (done (length ls))

-- the answer of the check
abbrev pub checked_lists : OutcomeOf ListRefusal ℕ → Result ℕ ListRefusal
checked_lists o = answer_of Err Ok o

-- the first list that is refused, where the first of all has the index i: r is its refusal, with its index
pub record FirstRefusedList (i : ℕ) (ls : List (List ℕ)) (r : ListRefusal) : Type 0 where
  pub before : List (List ℕ)
  pub here : List ℕ
  pub after : List (List ℕ)
  pub stands : ls ≡ before ++ (here ∷ after)
  pub accepted : All Accepts before
  pub refusal : Refusal
  pub refuses : check_outcome here ≡ refused refusal
  pub says : r ≡ of_list (i + length before) refusal
