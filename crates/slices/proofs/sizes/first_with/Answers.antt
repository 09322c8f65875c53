-- `slices::sizes::first_with` meets its contract. Assumes nothing.
use native.Mathlib.Omega.{arith}
use Rattle.slices.specs.Record.{count}
use Rattle.slices.proofs.sizes.first_with.Goals as goal

pub read_id-requires : goal.read_id-requires
unfolding count
read_id-requires c = omega arith
