-- `history::beginning::same` meets its contract. The invariant: what was compared did not differ, and the rest begins the rest. Assumes nothing.
use mathlib.Core.Path.{◌≡◌}
use mathlib.Core.Bool.{◌&&◌}
use lib.Dec.{eqb}
use lib.ListN.{drop}
use Rattle.history.specs.History.{begins}
use Rattle.history.proofs.beginning.same.Given as goal

abbrev pub invariant-loop-i : goal.invariant-loop-i
invariant-loop-i l = (begins l.bytes l.text ≡ (eqb l.differ 0 && begins (drop l.i l.bytes) (drop l.i l.text)))
