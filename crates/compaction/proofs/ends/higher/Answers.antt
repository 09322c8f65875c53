-- `compaction::ends::higher` meets its contract. Assumes nothing.
use native.Mathlib.Omega.{arith}
use Rattle.slices.specs.Limits.{chunk}
use Rattle.compaction.proofs.ends.higher.Goals as goal

pub overflow_add-pos : goal.overflow_add-pos
unfolding chunk
overflow_add-pos c = omega arith
