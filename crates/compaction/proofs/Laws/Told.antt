-- What the least pos and the greatest pos + len tell the code: the plan of the records, and what stands in for them. Assumes nothing.
use Prim.Native.Nat.{ℕ, ◌-◌, ◌<◌, zero-le}
use native.Mathlib.Omega.{arith}
use mathlib.Core.Bool.{true, false}
use mathlib.Core.Path.{◌≡◌, refl}
use mathlib.Core.Logic.{◌≢◌}
use mathlib.Core.List.{List, []}
use borrow.Author.Tests.{lt-ltb}
use Rattle.codec.specs.All.{All}
use Rattle.slices.specs.Limits.{chunk}
use Rattle.slices.specs.Passes.{Passes}
use Rattle.runs.specs.Runs.{runs}
use Rattle.plans.specs.Plan.{cut_to, pieces, read_plan}
use Rattle.compaction.specs.Span.{covers_nothing}
use Rattle.compaction.specs.Compaction.{extent, plan_of, new_record, stand_in}
use Rattle.compaction.specs.Inner.{lowest, highest, stand_for, Ends}
use Rattle.compaction.proofs.Laws.Ends.{lowest_nothing, lowest_something, first_lowest, last_highest, highest_top}
use Rattle.compaction.proofs.Laws.Span.{spans}
use Rattle.slices.specs.declared.Record.{Record}

-- an empty list covers nothing
pub nothing_empty : covers_nothing [] ≡ true
unfolding lowest
nothing_empty = lowest_nothing [] refl

-- the records cover nothing
module _ (xs : List Record) (e : lowest xs ≡ chunk) where
  nothing : covers_nothing xs ≡ true
  nothing = lowest_nothing xs e

  none_plan : (B : ℕ) → plan_of B xs ≡ pieces B xs 0 (0 - 0)
  unfolding plan_of pieces runs
  none_plan B = rw nothing

  none_new : (id : ℕ) → stand_in xs id ≡ stand_for 0 0 id
  unfolding stand_in stand_for
  none_new id = rw nothing

  pub ends_none : Ends xs 0 0
  ends_none = record { order = zero-le; inside = zero-le; plan = none_plan; new = none_new }

-- they cover something
module _ (xs : List Record) (w : All Passes xs) (ne : lowest xs ≢ chunk) where
  something : covers_nothing xs ≡ false
  something = lowest_something xs ne

  extent_ends : extent xs ≡ highest xs - lowest xs
  unfolding extent
  extent_ends = omega (arith, last_highest xs w something, first_lowest xs ne, (spans xs something).order)

  low_high : lowest xs < highest xs
  low_high = omega (arith, last_highest xs w something, first_lowest xs ne, (spans xs something).order)

  -- the read of p to q is not cut
  uncut : cut_to chunk (lowest xs) (highest xs - lowest xs) ≡ highest xs - lowest xs
  unfolding cut_to
  uncut = omega (arith, low_high, (highest_top xs w).bound)

  some_plan : (B : ℕ) → plan_of B xs ≡ pieces B xs (lowest xs) (highest xs - lowest xs)
  unfolding plan_of read_plan
  some_plan B = rw (something, first_lowest xs ne, extent_ends, uncut)

  some_new : (id : ℕ) → stand_in xs id ≡ stand_for (lowest xs) (highest xs) id
  unfolding stand_in stand_for new_record
  some_new id = rw (something, first_lowest xs ne, extent_ends, lt-ltb (lowest xs) (highest xs) low_high)

  pub ends_some : Ends xs (lowest xs) (highest xs)
  ends_some = record { order = omega (arith, low_high); inside = (highest_top xs w).bound; plan = some_plan; new = some_new }
