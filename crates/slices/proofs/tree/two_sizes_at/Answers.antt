-- `slices::tree::two_sizes_at` meets its contract. Assumes nothing.
use native.Mathlib.Omega.{arith}
use Rattle.slices.specs.Record.{count}
use Rattle.slices.proofs.tree.two_sizes_at.Goals as goal

pub search_some-requires : goal.search_some-requires
unfolding count
search_some-requires c = omega arith
