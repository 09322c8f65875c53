-- `resolve::bounds` meets its contract. Assumes nothing.
use native.Mathlib.Omega.{arith}
use Rattle.slices.specs.Limits.{chunk}
use Rattle.slices.specs.Record.{count}
use Rattle.slices.specs.Passes.{Passes}
use Rattle.slices.proofs.Laws.Record.{records_at}
use Rattle.resolve.proofs.bounds.Goals as goal

pub read_pos-first-requires : goal.read_pos-first-requires
unfolding count
read_pos-first-requires c = omega (arith, c.requires.n_bound.0)

pub read_len-requires : goal.read_len-requires
unfolding count
read_len-requires c = omega (arith, c.requires.n_bound.0)

pub overflow_add-ends : goal.overflow_add-ends
unfolding chunk
overflow_add-ends c =
    let h = records_at Passes _ c.requires.all c.loop-i.i (omega (arith, c.requires.n_bound.0)) in
    record { fits = omega (arith, h.inside, c.read_pos-first.ensures, c.read_len.ensures) }
