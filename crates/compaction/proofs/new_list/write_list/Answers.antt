-- `compaction::new_list::write_list` meets its contract: the rest is put behind the new record. Assumes nothing.
use native.Mathlib.Omega.{arith}
use mathlib.Core.Path.{ap, ◌∙◌}
use Rattle.codec.specs.Splice.{splice}
use Rattle.codec.proofs.Laws.All.{rest_whole}
use Rattle.compaction.proofs.Laws.Delivery.{put_behind}
use Rattle.compaction.proofs.new_list.write_list.Goals as goal

pub returns : goal.returns
returns c =
    put_behind _ _ _ _ _ _ c.stand_in_bytes-at.ensures (omega (arith, c.requires.cut_in_bounds_2)) c.write_stand_in.ensures
    (c.put.ensures.1 ∙ ap (splice _ _) (rest_whole c.args.list.now c.args.cut))
