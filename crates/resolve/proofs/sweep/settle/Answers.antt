-- `resolve::sweep::settle` meets its contract. Assumes nothing.
use native.Mathlib.Omega.{arith}
use Rattle.slices.specs.Limits.{chunk}
use Rattle.resolve.proofs.Laws.Sweep.{top_none}
use Rattle.resolve.proofs.sweep.settle.Goals as goal

pub returns-clause-topped : goal.returns-clause-topped
unfolding chunk
returns-clause-topped c = top_none _ _ _ _ c.loop-sum.invariant.0 (omega arith) c.requires.q_lt_chunk
