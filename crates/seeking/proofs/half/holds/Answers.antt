-- `seeking::half::holds` meets its contract: the sum of two 32-bit numbers fits 64 bits. Assumes nothing.
use borrow.Author.Tests.{lt-leb, le-leb}
use Rattle.slices.specs.Cover.{covers}
use Rattle.seeking.proofs.half.holds.Goals as goal

pub returns-then-pos-position : goal.returns-then-pos-position
unfolding covers
returns-then-pos-position c = rw (le-leb _ _ c.if-pos-position.true)

pub returns-else-pos-position : goal.returns-else-pos-position
unfolding covers
returns-else-pos-position c = rw (lt-leb _ _ c.if-pos-position.false)
