-- `scanning::scan` meets its contract. Assumes nothing.
use Rattle.std.proofs.Common.{le_refl, arith}
use Rattle.slices.specs.Record.{count}
use Rattle.scanning.proofs.Laws.Scan.{nearest_start, nearest_later, scans_none}
use Rattle.scanning.proofs.scan.Goals as goal

pub loop-i-init : goal.loop-i-init
unfolding count
loop-i-init c = (le_refl _, nearest_start _ _ _ _ c.requires.list_bound.1)

pub returns : goal.returns
returns c = scans_none _ _ _ _ _ (nearest_later _ _ _ _ _ _ _ (omega arith) c.loop-i.invariant.1)
