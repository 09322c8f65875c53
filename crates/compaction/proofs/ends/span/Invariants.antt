-- `compaction::ends::span` meets its contract. The invariant: `low` and `high` are those of the records from i on; of all records they tell the
-- first and the last covered position. Assumes nothing.
use mathlib.Core.Path.{◌≡◌}
use Rattle.slices.proofs.Laws.Left.{records_left}
use Rattle.compaction.specs.Inner.{lowest, highest}
use Rattle.compaction.proofs.ends.span.Given as goal

abbrev pub invariant-loop-i : goal.invariant-loop-i
invariant-loop-i l = (l.low ≡ lowest (records_left l.list l.i)) × (l.high ≡ highest (records_left l.list l.i))
