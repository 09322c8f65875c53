-- `seeking::half::if_held` meets its contract. Assumes nothing.
use mathlib.Core.Path.{sym, ◌∙◌}
use Rattle.seeking.specs.Seek.{if_held}
use Rattle.seeking.proofs.half.if_held.Goals as goal

pub returns-then-holds : goal.returns-then-holds
unfolding if_held
returns-then-holds c = rw (sym c.holds.ensures ∙ c.if-holds.true)

pub returns : goal.returns
unfolding if_held
returns c = rw (sym c.holds.ensures ∙ c.if-holds.false)
