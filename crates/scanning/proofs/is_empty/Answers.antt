-- `scanning::is_empty` meets its contract. Assumes nothing.
use Rattle.std.proofs.Common.{arith}
use Rattle.scanning.proofs.Laws.Last.{empty_is}
use Rattle.scanning.proofs.is_empty.Goals as goal

pub returns : goal.returns
returns c = empty_is _ _ c.requires (omega arith) c.wrapping_sub_u32.ensures.value
