-- `compaction::ids::in_use` meets its contract. Assumes nothing.
use borrow.Author.Tests.{eq-eqb, ne_eqb}
use Rattle.compaction.specs.Calls.{id_in_use}
use Rattle.compaction.proofs.ids.in_use.Goals as goal

pub returns-then-id-eq0 : goal.returns-then-id-eq0
unfolding id_in_use
returns-then-id-eq0 c = rw (eq-eqb _ 0 c.if-id-eq0.true)

pub returns-else-id-eq0 : goal.returns-else-id-eq0
unfolding id_in_use
returns-else-id-eq0 c = rw (ne_eqb _ 0 c.if-id-eq0.false) c.stands.ensures
