-- `judging::verdicts::of_place` meets its contract. Assumes nothing.
use borrow.Author.Tests.{lt-ltb, le-ltb}
use Rattle.judging.specs.Inner.{said_of}
use Rattle.judging.proofs.verdicts.of_place.Goals as goal

pub returns-then-at-n : goal.returns-then-at-n
unfolding said_of
returns-then-at-n c = rw (lt-ltb _ _ c.if-at-n.true)

pub returns : goal.returns
unfolding said_of
returns c = rw (le-ltb _ _ c.if-at-n.false)
