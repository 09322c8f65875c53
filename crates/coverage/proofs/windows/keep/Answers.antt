-- `coverage::windows::keep` meets its contract. Assumes nothing.
use native.Mathlib.Omega.{arith}
use mathlib.Core.Path.{refl}
use lib.ListN.{length-set}
use Rattle.coverage.proofs.Laws.Kept.{keeping_none, keeping_more}
use Rattle.coverage.proofs.windows.keep.Goals as goal

pub loop-i-init : goal.loop-i-init
loop-i-init c = (refl, keeping_none _ _)

pub loop-i-preserved : goal.loop-i-preserved
loop-i-preserved c =
    let inv = c.loop-i.invariant in (
      simp length-set inv.0,
      keeping_more _ _ _ _ _ inv.1 (omega (arith, inv.0)) _ refl _ c.begins-kept.ensures.0,
    )
