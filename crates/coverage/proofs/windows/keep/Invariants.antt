-- `coverage::windows::keep` meets its contract. The invariant: of the first i keys those that begin before `high` are kept, and the others stand as they
-- stood. Assumes nothing.
use mathlib.Core.Path.{◌≡◌}
use lib.ListN.{length}
use Rattle.coverage.proofs.Laws.Kept.{Keeping}
use Rattle.coverage.proofs.windows.keep.Given as goal

abbrev pub invariant-loop-i : goal.invariant-loop-i
invariant-loop-i l = (length l.keys ≡ length l.initial.keys) × Keeping l.initial.keys l.i l.high l.keys l.kept
