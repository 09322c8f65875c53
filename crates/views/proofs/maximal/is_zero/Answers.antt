-- `views::maximal::is_zero` meets its contract: each arm knows the source's kind. Assumes nothing.
use mathlib.Core.Path.{sym}
use Rattle.views.specs.View.{next}
use Rattle.views.proofs.Laws.Next.{not_zero}
use Rattle.views.proofs.maximal.is_zero.Goals as goal

pub returns-in-Zero : goal.returns-in-Zero
unfolding next
returns-in-Zero c = rw c.in-Zero.is

pub returns-in_default : goal.returns-in_default
returns-in_default c = sym (not_zero _ c.in_default.not-Zero)
