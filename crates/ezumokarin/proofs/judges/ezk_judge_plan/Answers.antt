-- `ezumokarin::judges::ezk_judge_plan` meets its contract: it passes the answer on. Assumes nothing.
use mathlib.Core.Path.{ap, ◌∙◌}
use Rattle.ezumokarin.specs.Judges.{plain_judged}
use Rattle.ezumokarin.proofs.Laws.{plain_judged_lem}
use Rattle.ezumokarin.proofs.judges.ezk_judge_plan.Goals as goal

pub returns : goal.returns
returns c = c.from.ensures ∙ ap plain_judged c.judge.ensures ∙ plain_judged_lem _
