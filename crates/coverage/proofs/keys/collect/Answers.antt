-- `coverage::keys::collect` meets its contract. Assumes nothing.
use mathlib.Core.Path.{refl}
use native.Mathlib.Omega.{arith}
use Rattle.coverage.proofs.Laws.Collected.{collected_none}
use Rattle.coverage.proofs.Laws.Windows.{window_none, crowd_grows}
use Rattle.coverage.proofs.keys.collect.Goals as goal

pub loop-i-init : goal.loop-i-init
loop-i-init c = (c.requires.0, omega arith, omega arith, refl, collected_none _ _ _ _)

pub returns-then-high-low : goal.returns-then-high-low
returns-then-high-low c =
    let found = c.put-window.ensures in
    let inv = c.loop-i.invariant in
    window_none _ _ _ _ _ (omega (arith, inv.0, inv.1)) (crowd_grows _ _ _ _ (omega arith) (found.crowded (omega (arith, c.if-high-low.true, found.behind))))
