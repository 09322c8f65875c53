-- A view fed back as a list (paper 02, L2). In a view, id 0 with a size means uncovered; in a list, id 0 means zeros, whatever its size. Assumes nothing.
use Rattle.std.specs.Prelude.{ℕ, ◌<◌, ◌≤◌, ◌≡◌, ◌≢◌, List, [], ◌∷◌}
use Rattle.codec.specs.All.{All}
use Rattle.outcomes.specs.Numbers as number
use Rattle.outcomes.specs.Outcome.{done, row, first_of}
use Rattle.slices.specs.Cover.{cover}
use Rattle.slices.specs.Passes.{Passes}
use Rattle.slices.specs.Record.{count, records}
use Rattle.slices.specs.Refusals.{too_many, check_outcome}
use Rattle.slices.specs.declared.Record.{Record}
use Rattle.slices.specs.declared.Source.TheVariants.{Nothing, Zero}

-- what a list's view for chunk length l is as a list: its records pass 3 to 6; below l its cover is the list's own, and a zero where that is
-- nothing ("any holes have become zeros"); at and past l it is nothing
pub record Again (rs again : List Record) (l : ℕ) : Type 0 where
  pub passes : All Passes again
  pub covered : (p : ℕ) → p < l → cover rs p ≢ Nothing → cover again p ≡ cover rs p
  pub hole : (p : ℕ) → p < l → cover rs p ≡ Nothing → cover again p ≡ Zero
  pub past : (p : ℕ) → l ≤ p → cover again p ≡ Nothing

-- what its bytes are as a list: of the rows of the check only that of refusal 2 can hold ("unless refused with 2")
pub record AgainBytes (bs again : List ℕ) (l : ℕ) : Type 0 where
  pub checks : check_outcome again ≡ first_of (row (too_many again) number.too_many 0 ∷ []) (done (count again))
  pub means : Again (records bs) (records again) l
