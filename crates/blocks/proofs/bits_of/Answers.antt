-- `blocks::bits_of` meets its contract: an allowed block size is the power of two that is not above it. Assumes nothing.
use native.Mathlib.Omega.{arith}
use Rattle.blocks.proofs.Laws.Blocks.{block_range, exponent_is}
use Rattle.blocks.proofs.bits_of.Goals as goal

pub ilog2-requires : goal.ilog2-requires
ilog2-requires c = omega (arith, (block_range c.args.block c.requires).0)

pub returns : goal.returns
returns c = (exponent_is _ _ c.requires c.ilog2.ensures.power_le c.ilog2.ensures.next_power_gt, c.ilog2.ensures.bound)
