-- `seeking::lent::fill` meets its contract. Assumes nothing.
use native.Mathlib.Omega.{arith}
use mathlib.Core.Path.{sym}
use Rattle.slices.specs.Record.{count}
use Rattle.seeking.proofs.Laws.Fill.{filled_start, filled_more}
use Rattle.seeking.proofs.lent.fill.Goals as goal

pub loop-i-init : goal.loop-i-init
loop-i-init c = (omega arith, sym (filled_start _ _))

pub read_record-requires : goal.read_record-requires
unfolding count
read_record-requires c = omega arith

pub loop-i-preserved : goal.loop-i-preserved
loop-i-preserved c =
    let v = c.loop-i.invariant in
    (omega arith, rw (v.1, c.read_record.ensures) (filled_more c.args.bytes.now c.args.row.now c.loop-i.i (omega arith)))
