-- `scanning::found` meets its contract: record i lies on top up to its end, or up to the nearest position if that comes first. Assumes nothing.
use Rattle.std.proofs.Common.{arith}
use Rattle.slices.specs.Limits.{chunk}
use Rattle.slices.specs.Record.{count}
use Rattle.slices.specs.Passes.{Passes}
use Rattle.slices.proofs.Laws.Record.{records_at}
use Rattle.scanning.proofs.Laws.Scan.{found_near, found_below}
use Rattle.scanning.proofs.found.Goals as goal

pub read_pos-requires : goal.read_pos-requires
unfolding count
read_pos-requires c = omega arith

pub read_len-requires : goal.read_len-requires
unfolding count
read_len-requires c = omega arith

pub overflow_add-stop : goal.overflow_add-stop
unfolding chunk
overflow_add-stop c = record { fits = omega (arith, (records_at Passes _ c.requires.all _ c.requires.i_bound.0).inside) }

pub returns-then-stop-near : goal.returns-then-stop-near
returns-then-stop-near c =
    found_below _ _ _ _ _ _ c.requires.i_bound.0 c.requires.p_value c.requires.nearest _ (omega arith) (omega arith)

pub returns : goal.returns
returns c = found_near _ _ _ _ _ _ c.requires.i_bound.0 c.requires.p_value c.requires.nearest (omega arith)
