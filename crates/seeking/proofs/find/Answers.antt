-- `seeking::find` meets its contract: what halving ends at is tested. Assumes nothing.
use Rattle.std.proofs.Common.{rules}
use Rattle.seeking.proofs.Laws.LentRow.{row_none, row_tested}
use Rattle.seeking.proofs.find.Goals as goal

pub returns-then-n-eq0 : goal.returns-then-n-eq0
returns-then-n-eq0 c = row_none _ _ _ _ c.fewer-n.ensures c.if-n-eq0.true

pub returns : goal.returns
returns c = row_tested _ _ _ _ c.fewer-n.ensures c.if-n-eq0.false _ _ (c.halve-k.ensures.value _ (λ i r h e. search rules)) c.if_held.ensures
