-- `ezumokarin::changes::ezk_added` meets its contract: whether the list was rewritten, and where the part stands. Assumes nothing.
use mathlib.Core.Path.{◌∙◌}
use Rattle.history.proofs.Laws.Calls.{part_fits}
use Rattle.ezumokarin.proofs.Laws.{plain_part_lem}
use Rattle.ezumokarin.proofs.changes.ezk_added.Goals as goal

pub overflow_sub-offset : goal.overflow_sub-offset
overflow_sub-offset c = rw c.part-part.ensures (part_fits _ _)

pub returns : goal.returns
returns c =
    let part = c.part-part.ensures in
    c.of_rewritten.ensures ∙ rw (c.rewritten-answer.ensures, part) (plain_part_lem _ _)
