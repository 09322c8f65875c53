-- What is new since last time (paper 02, L14): of an older and a newer list, what was added, and whether the list was rewritten. Assumes nothing.
use Rattle.std.specs.Prelude.{ℕ, ◌≡◌, Bool, true, false, ◌&&◌, not, List, [], ◌∷◌, ◌++◌, eqb, length, drop, Result, Ok, Err}
use Rattle.outcomes.specs.Outcome.{Outcome, refused, done, Row, first_of}
use Rattle.outcomes.specs.Answers.{answer_of}
use Rattle.slices.specs.Refusals.{list_rows}
use Rattle.outcomes.specs.Outcome.{Refusal}

-- "the older is a beginning of the newer", byte for byte
unfoldable pub begins : List ℕ → List ℕ → Bool
begins [] newer = true
begins (a ∷ older) [] = false
begins (a ∷ older) (b ∷ newer) = eqb a b && begins older newer

-- "The older list's refusal comes first": 1, 2, 3 to 6, 16 of the older list, then those of the newer
unfoldable pub history_rows : List ℕ → List ℕ → List Row
history_rows older newer = list_rows older ++ list_rows newer

-- whether the list was rewritten, or the refusal
unfoldable pub history_outcome : List ℕ → List ℕ → Outcome Bool
history_outcome older newer = first_of (history_rows older newer) (done (not (begins older newer)))

-- the answer of the call `rewritten`
abbrev pub told : Outcome Bool → Result Bool Refusal
told o = answer_of Err Ok o

-- the part of the newer list that is handed back: "the newer's added records", "otherwise the whole newer list", and "an empty part" on a refusal
unfoldable pub part_for : Outcome Bool → List ℕ → List ℕ → List ℕ
part_for (refused r) older newer = []
part_for (done false) older newer = drop (length older) newer
part_for (done true) older newer = newer

unfoldable pub added_part : List ℕ → List ℕ → List ℕ
added_part older newer = part_for (history_outcome older newer) older newer

-- a list that is the older one with more behind it: bytes, or records
pub record Continues {A : Type 0} (older newer : List A) : Type 0 where
  pub rest : List A
  pub whole : older ++ rest ≡ newer
