-- `plans::locations::location_goes_on` meets its contract: in each arm the location is known. Assumes nothing.
use mathlib.Core.Path.{sym, ◌∙◌}
use Rattle.plans.proofs.Laws.Locations.{next_hole}
use Rattle.plans.proofs.locations.location_goes_on.Goals as goal

pub returns-in-Hole : goal.returns-in-Hole
returns-in-Hole c = c.is_hole.ensures ∙ rw c.in-Hole.is (sym (next_hole _ _))

pub returns-in-In : goal.returns-in-In
returns-in-In c = c.follows.ensures ∙ rw c.in-In.is
