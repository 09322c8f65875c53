-- `ezumokarin::lists::ezk_check` meets its contract: it passes the check's answer on. Assumes nothing.
use mathlib.Core.Path.{ap, ◌∙◌}
use Rattle.ezumokarin.specs.Plain.{plain_answer}
use Rattle.ezumokarin.proofs.Laws.{plain_counted}
use Rattle.ezumokarin.proofs.lists.ezk_check.Goals as goal

pub returns : goal.returns
returns c = c.from.ensures ∙ ap plain_answer c.check_list.ensures ∙ plain_counted _
