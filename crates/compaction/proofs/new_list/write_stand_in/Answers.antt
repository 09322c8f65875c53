-- `compaction::new_list::write_stand_in` meets its contract: the one record is written, or the buffer is left as it was. Assumes nothing.
use native.Mathlib.Omega.{arith}
use mathlib.Core.Path.{sym, ap, ◌∙◌}
use Rattle.codec.specs.Splice.{splice}
use Rattle.codec.proofs.Laws.Splice.{splice-nil}
use Rattle.compaction.proofs.Laws.NewList.{stand_length, stand_some, stand_none}
use Rattle.compaction.proofs.new_list.write_stand_in.Goals as goal

pub write_record-requires : goal.write_record-requires
write_record-requires c = omega (arith, stand_length _ _ c.args.id c.if-from-end.true, c.requires)

pub returns-then-from-end : goal.returns-then-from-end
returns-then-from-end c = c.write_record.ensures ∙ ap (splice _ 0) (sym (stand_some _ _ _ c.if-from-end.true))

pub returns-else-from-end : goal.returns-else-from-end
returns-else-from-end c = sym (ap (splice _ 0) (stand_none _ _ _ c.if-from-end.false) ∙ splice-nil _ 0)
