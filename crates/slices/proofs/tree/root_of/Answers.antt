-- `slices::tree::root_of` meets its contract: the root is below the number of roots. Assumes nothing.
use Prim.Native.Nat.{◌-◌}
use native.Mathlib.Omega.{arith}
use mathlib.Core.Path.{refl}
use lib.Bits.{and_le_r}
use Rattle.slices.specs.Tree.{root_of}
use Rattle.slices.proofs.tree.root_of.Goals as goal

pub returns : goal.returns
unfolding root_of
returns c = (refl, omega (arith, and_le_r c.args.id (c.args.roots - 1)))
