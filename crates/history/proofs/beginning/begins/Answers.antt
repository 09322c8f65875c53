-- `history::beginning::begins` meets its contract. The invariant: what was compared is the same, so the rest decides. Assumes nothing.
use mathlib.Core.Path.{sym, ◌∙◌}
use native.Mathlib.Omega.{arith}
use lib.ListN.{drop, length-take, length-drop}
use Rattle.history.specs.Inner.{UpTo}
use Rattle.history.proofs.Laws.Begins.{begins_longer, begins_end, part_up_to, up_to_more, up_to_differs}
use Rattle.history.proofs.beginning.begins.Goals as goal
use Rattle.history.proofs.beginning.begins.Goals.{After-same}

pub returns-then-newer-n : goal.returns-then-newer-n
returns-then-newer-n c = let a = c.args in sym (begins_longer a.older.now a.newer.now c.if-newer-n.true)

pub returns-then-not-first_same : goal.returns-then-not-first_same
returns-then-not-first_same c = sym (c.first_same.ensures ∙ rw c.if-not-first_same.true)

pub loop-i-init : goal.loop-i-init
loop-i-init c =
    (c.first_same.ensures ∙ rw c.if-not-first_same.false, omega (arith, c.few-m.ensures))

pub same-requires : goal.same-requires
same-requires c = simp (length-take, length-drop) (omega (arith, c.next_end-j.ensures.0, c.next_end-j.ensures.1))

-- the part that was compared
compared : (c : After-same)
    → let a = c.args in
    UpTo a.older.now a.newer.now c.loop-i.i c.next_end-j.result c.same.result
compared c =
    part_up_to _ _ _ _ (omega (arith, c.next_end-j.ensures.0)) c.next_end-j.ensures.1 (omega arith) _ c.same.ensures

pub loop-i-preserved : goal.loop-i-preserved
loop-i-preserved c =
    (up_to_more _ _ 0 c.loop-i.i c.next_end-j.result _ c.loop-i.invariant.0 (compared (goal.at.loop-i-preserved c).After-same) c.if-same.true, c.next_end-j.ensures.1)

pub returns-else-same : goal.returns-else-same
returns-else-same c =
    sym (up_to_differs _ _ 0 c.loop-i.i c.next_end-j.result _ c.loop-i.invariant.0 (compared (goal.at.returns-else-same c).After-same) c.if-same.false)

pub returns : goal.returns
returns c =
    let a = c.args in
    sym (c.loop-i.invariant.0 ∙ begins_end a.older.now (drop c.loop-i.i a.newer.now) c.loop-i.i c.loop-i-test.false)
