-- `files::parts::places_before` meets its contract. Assumes nothing.
use native.Mathlib.Omega.{arith}
use Rattle.slices.specs.Limits.{chunk}
use Rattle.files.proofs.parts.places_before.Goals as goal

pub returns-then-from-low : goal.returns-then-from-low
unfolding chunk
returns-then-from-low c = omega arith

pub returns-else-from-low : goal.returns-else-from-low
unfolding chunk
returns-else-from-low c = omega arith
