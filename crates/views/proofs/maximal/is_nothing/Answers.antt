-- `views::maximal::is_nothing` meets its contract: each arm knows the source's kind. Assumes nothing.
use mathlib.Core.Path.{sym}
use Rattle.slices.specs.Cover.{is_nothing}
use Rattle.views.proofs.Laws.Next.{not_nothing}
use Rattle.views.proofs.maximal.is_nothing.Goals as goal

pub returns-in-Nothing : goal.returns-in-Nothing
unfolding is_nothing
returns-in-Nothing c = rw c.in-Nothing.is

pub returns-in_default : goal.returns-in_default
returns-in_default c = sym (not_nothing _ c.in_default.not-Nothing)
