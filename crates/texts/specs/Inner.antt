-- Inner: what a reader of all parts of a form answers. It serves the contracts of inner functions alone. Assumes nothing.
use Rattle.std.specs.Prelude.{ℕ, List, Result, Ok, Err}
use Rattle.texts.specs.Parts.{Scan, found, stop}

-- what the numbers of a text stand for, or the place at which the reading gave up
unfoldable pub read_by : {A : Type 0} → (List ℕ → A) → Scan → Result A ℕ
read_by stands (found ns) = Ok (stands ns)
read_by stands (stop place) = Err place
