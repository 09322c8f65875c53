-- `scanning::covers` meets its contract. Assumes nothing.
use Rattle.std.proofs.Common.{arith}
use Rattle.slices.specs.Passes.{Passes}
use Rattle.slices.specs.Record.{count}
use Rattle.slices.proofs.Laws.Record.{records_at}
use Rattle.scanning.proofs.Laws.Last.{test_is}
use Rattle.scanning.proofs.covers.Goals as goal

pub read_pos-requires : goal.read_pos-requires
unfolding count
read_pos-requires c = omega arith

pub read_len-requires : goal.read_len-requires
unfolding count
read_len-requires c = omega arith

pub returns : goal.returns
returns c =
    let d = rw c.read_pos.ensures at c.wrapping_sub_u32-d.ensures.value in
    rw c.read_len.ensures (test_is _ (records_at Passes _ c.requires.all _ c.requires.i_bound) _ _ (omega arith) (omega arith) d)
