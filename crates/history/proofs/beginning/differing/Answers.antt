-- `history::beginning::differing` meets its contract: once two bytes differ, it is told from then on. Assumes nothing.
use lib.Dec.{eqb}
use borrow.Author.Tests.{eq-eqb, ne_eqb}
use mathlib.Core.Path.{sym}
use Rattle.history.proofs.Laws.Begins.{and-false, and-true}
use Rattle.history.proofs.beginning.differing.Goals as goal

pub returns-then-a-b : goal.returns-then-a-b
returns-then-a-b c = let a = c.args in rw (ne_eqb a.a a.b c.if-a-b.true) (sym (and-false (eqb a.so_far 0)))

pub returns : goal.returns
returns c = let a = c.args in rw (eq-eqb a.a a.b c.if-a-b.false) (sym (and-true (eqb a.so_far 0)))
