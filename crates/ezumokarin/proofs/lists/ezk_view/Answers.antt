-- `ezumokarin::lists::ezk_view` meets its contract: it passes the answer on. Assumes nothing.
use mathlib.Core.Path.{ap, ◌∙◌}
use Rattle.ezumokarin.specs.Plain.{plain_answer}
use Rattle.ezumokarin.proofs.Laws.{plain_wrote}
use Rattle.ezumokarin.proofs.lists.ezk_view.Goals as goal

pub returns : goal.returns
returns c =
    let a = c.view.ensures in
    record { value = c.from.ensures ∙ ap plain_answer a.answers ∙ plain_wrote _; out_after = a.leaves.0 }
