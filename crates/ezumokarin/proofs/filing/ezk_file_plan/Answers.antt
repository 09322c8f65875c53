-- `ezumokarin::filing::ezk_file_plan` meets its contract: it passes the answer on. Assumes nothing.
use mathlib.Core.Path.{ap, ◌∙◌}
use Rattle.ezumokarin.specs.Files.{plain_file}
use Rattle.ezumokarin.proofs.Laws.{plain_file_lem}
use Rattle.ezumokarin.proofs.filing.ezk_file_plan.Goals as goal

pub returns : goal.returns
returns c =
    let a = c.file_plan.ensures in
    record { value = c.from.ensures ∙ ap plain_file a.answers ∙ plain_file_lem _; out_after = a.leaves.0 }
