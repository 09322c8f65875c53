-- `compaction::new_list::stand_in_bytes` meets its contract: there is one record, or none. Assumes nothing.
use mathlib.Core.Path.{sym, ap}
use lib.ListN.{length}
use Rattle.compaction.proofs.Laws.NewList.{stand_length, stand_none}
use Rattle.compaction.proofs.new_list.stand_in_bytes.Goals as goal

pub returns-then-from-end : goal.returns-then-from-end
returns-then-from-end c = sym (stand_length _ _ _ c.if-from-end.true)

pub returns : goal.returns
returns c = sym (ap length (stand_none _ _ _ c.if-from-end.false))
