-- `scanning::scan` meets its contract. The invariant: `near` is the nearest position behind p that the records from i on cover. Assumes nothing.
use Rattle.std.proofs.Common.{◌≤◌}
use Rattle.slices.specs.Record.{count}
use Rattle.scanning.specs.Scan.{Nearest}
use Rattle.scanning.proofs.scan.Given as goal

abbrev pub invariant-loop-i : goal.invariant-loop-i
invariant-loop-i l = (l.i ≤ count l.list) × Nearest l.list l.i l.p l.end l.near.at l.near.top
