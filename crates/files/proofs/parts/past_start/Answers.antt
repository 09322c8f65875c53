-- `files::parts::past_start` meets its contract. Assumes nothing.
use native.Mathlib.Omega.{arith}
use Rattle.slices.specs.Limits.{chunk}
use Rattle.files.proofs.parts.past_start.Goals as goal

pub returns-then-p-low : goal.returns-then-p-low
unfolding chunk
returns-then-p-low c = omega arith

pub returns-else-p-low : goal.returns-else-p-low
unfolding chunk
returns-else-p-low c = omega arith
