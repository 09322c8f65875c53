-- `stepping::joins::run_to` meets its contract. The invariant: from p up to e the locations go on, and e is the end of the segment, or of a block in it.
-- Assumes nothing.
use Prim.Native.Nat.{◌+◌, ◌-◌, ◌≤◌, ◌<◌}
use lib.ListN.{get_or}
use Rattle.slices.specs.Record.{records}
use Rattle.runs.specs.Inner.{Unbroken}
use Rattle.runs.specs.Runs.{Stops}
use Rattle.plans.specs.Location.{location_at, next_location}
use Rattle.stepping.proofs.joins.run_to.Given as goal

abbrev pub invariant-loop-e : goal.invariant-loop-e
invariant-loop-e l = Unbroken next_location (location_at l.block.bytes (records l.r.list.now)) l.p l.end l.e
    × (l.segment < l.r.segments)
    × (get_or l.r.marks.now l.segment 0 ≤ l.e)
    × (l.e ≤ get_or l.r.marks.now (l.segment + 1) 0)
    × (l.e < get_or l.r.marks.now (l.segment + 1) 0 → Stops next_location (location_at l.block.bytes (records l.r.list.now)) l.e l.end)

abbrev pub decreases-loop-e : goal.decreases-loop-e
decreases-loop-e l = l.end - l.e
