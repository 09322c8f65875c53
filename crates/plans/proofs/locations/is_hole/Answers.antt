-- `plans::locations::is_hole` meets its contract: each arm knows the location. Assumes nothing.
use Rattle.plans.specs.Location.{next_location}
use Rattle.plans.proofs.locations.is_hole.Goals as goal

pub returns-in-Hole : goal.returns-in-Hole
unfolding next_location
returns-in-Hole c = rw c.in-Hole.is

pub returns-in_default : goal.returns-in_default
unfolding next_location
returns-in_default c = rw c.in_default.is
