-- `plans::cut` meets its contract: the tests say how the read is cut. Assumes nothing.
use native.Mathlib.Omega.{arith}
use mathlib.Core.Path.{refl}
use Rattle.plans.specs.Plan.{cut_to}
use Rattle.plans.proofs.cut.Goals as goal

pub returns-then-l-start : goal.returns-then-l-start
unfolding cut_to
returns-then-l-start c = record { order = omega arith; within = omega arith; size = omega arith; starts = λ l. omega arith }

pub returns-then-count-l : goal.returns-then-count-l
unfolding cut_to
returns-then-count-l c = record { order = omega arith; within = omega arith; size = omega arith; starts = λ l. refl }

pub returns : goal.returns
unfolding cut_to
returns c = record { order = omega arith; within = omega arith; size = omega arith; starts = λ l. refl }
