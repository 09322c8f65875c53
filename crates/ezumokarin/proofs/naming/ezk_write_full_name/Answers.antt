-- `ezumokarin::naming::ezk_write_full_name` meets its contract: it passes the answer on. Assumes nothing.
use mathlib.Core.Path.{ap, ◌∙◌}
use Rattle.ezumokarin.specs.Plain.{plain_answer}
use Rattle.ezumokarin.proofs.Laws.{plain_wrote}
use Rattle.ezumokarin.proofs.naming.ezk_write_full_name.Goals as goal

pub returns : goal.returns
returns c =
    let a = c.write_full_name.ensures in
    record { value = c.from.ensures ∙ ap plain_answer a.answers ∙ plain_wrote _; out_after = a.leaves.0 }
