-- `names::volume::read` meets its contract, case by case. Assumes nothing.
use Rattle.names.proofs.Laws.Volume.{volume_short, volume_long, volume_right}
use native.Mathlib.Omega.{arith}
use Rattle.names.proofs.volume.read.Goals as goal

pub returns-then-n-lt1 : goal.returns-then-n-lt1
returns-then-n-lt1 c = volume_short c.args.text.now (omega (arith, c.run-n.ensures.0))

pub returns-then-n-gt-MAX_VOLUME : goal.returns-then-n-gt-MAX_VOLUME
returns-then-n-gt-MAX_VOLUME c = volume_long c.args.text.now (omega (arith, c.run-n.ensures.0))

pub returns : goal.returns
returns c =
    rw c.run-n.ensures.0 (volume_right c.args.text.now (omega (arith, c.run-n.ensures.0)) (omega (arith, c.run-n.ensures.0)))
