-- `judging::places::in_object` meets its contract: only a piece that lies in an object has a byte there. Assumes nothing.
use Rattle.std.proofs.Common.{arith}
use Rattle.std.proofs.lemmas.Grind.{common_steps}
use Rattle.plans.specs.Location.{onward}
use Rattle.plans.specs.Piece.{location_of}
use Rattle.judging.specs.Judge.{same_location}
use Rattle.judging.proofs.places.in_object.Goals as goal

pub returns-then-p-l : goal.returns-then-p-l
unfolding same_location onward location_of
returns-then-p-l c = grind (arith, common_steps)

pub returns-else-p-l : goal.returns-else-p-l
unfolding same_location onward location_of
returns-else-p-l c = grind (arith, common_steps)
