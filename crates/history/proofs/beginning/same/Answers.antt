-- `history::beginning::same` meets its contract. The invariant: what was compared did not differ, and the rest begins the rest. Assumes nothing.
use mathlib.Core.Path.{refl}
use native.Mathlib.Omega.{arith}
use Rattle.history.proofs.Laws.Begins.{compared_more, compared_all}
use Rattle.history.proofs.beginning.same.Goals as goal

pub loop-i-init : goal.loop-i-init
loop-i-init c = refl

pub loop-i-preserved : goal.loop-i-preserved
loop-i-preserved c =
    let a = c.args in
    compared_more a.bytes.now a.text.now c.loop-i.differ c.loop-i.i c.loop-i.invariant (omega arith) (omega arith) c.differing-differ.result c.differing-differ.ensures

pub returns : goal.returns
returns c =
    let a = c.args in
    compared_all a.bytes.now a.text.now c.loop-i.differ c.loop-i.i c.loop-i.invariant c.loop-i-test.false
