-- `files::parts::part` meets its contract. Assumes nothing.
use native.Mathlib.Omega.{arith}
use Rattle.slices.specs.Limits.{chunk}
use Rattle.files.specs.File.{part_from, part_end}
use Rattle.files.proofs.parts.part.Goals as goal

pub returns-then-stop-lt-CHUNK : goal.returns-then-stop-lt-CHUNK
unfolding part_from part_end chunk
returns-then-stop-lt-CHUNK c = (c.past_start-start.ensures, omega (arith, c.past_start-stop.ensures))

pub returns : goal.returns
unfolding part_from part_end chunk
returns c = (c.past_start-start.ensures, omega (arith, c.past_start-stop.ensures))
