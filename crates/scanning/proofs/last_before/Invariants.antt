-- `scanning::last_before` meets its contract. The invariant: the records from k up to i don't cover p. Assumes nothing.
use Rattle.std.proofs.Common.{◌≤◌}
use Rattle.scanning.specs.Scan.{Clear}
use Rattle.scanning.proofs.last_before.Given as goal

abbrev pub invariant-loop-k : goal.invariant-loop-k
invariant-loop-k l = (l.k ≤ l.i) × Clear l.list l.k l.i l.p
