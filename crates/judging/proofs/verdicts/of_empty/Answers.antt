-- `judging::verdicts::of_empty` meets its contract. Assumes nothing.
use Rattle.judging.proofs.Laws.Looked.{empty_accepted, empty_wrong}
use Rattle.judging.proofs.verdicts.of_empty.Goals as goal

pub returns-then-plan-eq0 : goal.returns-then-plan-eq0
returns-then-plan-eq0 c = λ f. empty_accepted f _ c.if-plan-eq0.true

pub returns : goal.returns
returns c = λ f. empty_wrong f _ c.if-plan-eq0.false
