-- `judging::pieces::is_marked` meets its contract. Assumes nothing.
use mathlib.Core.Path.{◌∙◌}
use borrow.Author.Tests.{eq-eqb, ne_eqb}
use Rattle.judging.proofs.Laws.Forms.{object_marked, zeros_marked, not_marked}
use Rattle.judging.proofs.pieces.is_marked.Goals as goal

pub returns-then-p-eq-OBJECT : goal.returns-then-p-eq-OBJECT
returns-then-p-eq-OBJECT c = eq-eqb _ _ c.if-p-eq-OBJECT.true ∙ object_marked _ c.if-p-eq-OBJECT.true

pub returns-then-p-eq-ZEROS : goal.returns-then-p-eq-ZEROS
returns-then-p-eq-ZEROS c = zeros_marked _ c.if-p-eq-OBJECT.false c.if-p-eq-ZEROS.true _ c.some_set.ensures

pub returns-else-p-eq-ZEROS : goal.returns-else-p-eq-ZEROS
returns-else-p-eq-ZEROS c = ne_eqb _ _ c.if-p-eq-ZEROS.false ∙ not_marked _ c.if-p-eq-OBJECT.false c.if-p-eq-ZEROS.false
