-- `ezumokarin::compacting::ezk_compact` meets its contract: it passes the answer on. Assumes nothing.
use mathlib.Core.Path.{ap, ◌∙◌}
use Rattle.ezumokarin.specs.Compact.{plain_compacted}
use Rattle.ezumokarin.proofs.Laws.{plain_both}
use Rattle.ezumokarin.proofs.compacting.ezk_compact.Goals as goal

pub returns : goal.returns
returns c =
    let a = c.compact.ensures in
    record { value = c.from.ensures ∙ ap plain_compacted a.answers ∙ plain_both _; plan_after = a.leaves.0; new_list_after = a.leaves.1.0 }
