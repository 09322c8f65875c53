-- `views::maximal::goes_on` meets its contract: in each arm the source's kind is known. Assumes nothing.
use mathlib.Core.Path.{sym, ◌∙◌}
use Rattle.views.proofs.Laws.Next.{next_nothing, next-zero}
use Rattle.views.proofs.maximal.goes_on.Goals as goal

pub returns-in-Nothing : goal.returns-in-Nothing
returns-in-Nothing c = c.is_nothing.ensures ∙ rw c.in-Nothing.is (sym (next_nothing _ _))

pub returns-in-Zero : goal.returns-in-Zero
returns-in-Zero c = c.is_zero.ensures ∙ rw c.in-Zero.is (sym (next-zero _ _))

pub returns-in-Byte : goal.returns-in-Byte
returns-in-Byte c = c.follows.ensures ∙ rw c.in-Byte.is
