-- `views::walk::too_long` meets its contract. Assumes nothing.
use Rattle.views.specs.Inner.{too_long}
use Rattle.views.proofs.walk.too_long.Goals as goal

pub returns-then-all : goal.returns-then-all
unfolding too_long
returns-then-all c = rw c.if-all.true

pub returns : goal.returns
unfolding too_long
returns c = rw c.if-all.false
