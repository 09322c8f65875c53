-- `blocks::block_allowed` meets its contract: within the bounds the remainder decides. Assumes nothing.
use Rattle.std.proofs.Common.{rules}
use Rattle.blocks.specs.Blocks.{block_allowed}
use Rattle.blocks.proofs.Laws.Blocks.{block_rest}
use Rattle.blocks.proofs.block_allowed.Goals as goal

pub returns-then-block-le-LARGEST : goal.returns-then-block-le-LARGEST
returns-then-block-le-LARGEST c = block_rest _ c.if-block-le-LARGEST.true.0 c.if-block-le-LARGEST.true.1

pub returns-else-block-le-LARGEST : goal.returns-else-block-le-LARGEST
unfolding block_allowed
returns-else-block-le-LARGEST c = search rules
