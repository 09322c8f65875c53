-- `texts::scan::end` meets its contract, case by case. Assumes nothing.
use mathlib.Core.Path.{sym}
use Rattle.texts.proofs.Laws.Steps.{end_past, end_before}
use Rattle.texts.proofs.scan.end.Goals as goal

pub returns-then-text-at : goal.returns-then-text-at
returns-then-text-at c = sym (end_past _ c.args.text.now c.if-text-at.true)

pub returns-else-text-at : goal.returns-else-text-at
returns-else-text-at c = sym (end_before _ c.args.text.now c.if-text-at.false)
