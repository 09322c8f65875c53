-- `judging::leading::comes_next` meets its contract. Assumes nothing.
use native.Mathlib.Omega.{arith}
use mathlib.Core.Path.{sym, ◌∙◌}
use borrow.Author.Tests.{eqb-true}
use Rattle.slices.specs.Limits.{chunk}
use Rattle.judging.proofs.Laws.Forms.{form}
use Rattle.judging.proofs.leading.comes_next.Goals as goal

pub overflow_add-result : goal.overflow_add-result
overflow_add-result c =
    let f = form _ _ _ _ (sym c.is_formed.ensures ∙ c.if-p-place.true.0) in omega (arith, c.requires, f.inside)

pub returns-then-p-place : goal.returns-then-p-place
unfolding chunk
returns-then-p-place c = λ h. (sym c.is_formed.ensures ∙ c.if-p-place.true.0, c.if-p-place.true.1, eqb-true _ _ h)
