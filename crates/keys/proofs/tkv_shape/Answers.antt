-- `keys::tkv_shape` meets its contract, case by case. Assumes nothing.
use Rattle.std.proofs.Common.{rules}
use Rattle.keys.specs.Keys.{tkv_shape}
use Rattle.keys.proofs.tkv_shape.Goals as goal

pub returns-then-key-eq65 : goal.returns-then-key-eq65
unfolding tkv_shape
returns-then-key-eq65 c = search rules

pub returns-else-key-eq65 : goal.returns-else-key-eq65
unfolding tkv_shape
returns-else-key-eq65 c = search rules
