-- `seeking::half::middle` meets its contract. Assumes nothing.
use mathlib.Core.Path.{refl}
use Rattle.seeking.specs.Seek.{middle}
use Rattle.seeking.proofs.half.middle.Goals as goal

pub returns : goal.returns
unfolding middle
returns c = refl
