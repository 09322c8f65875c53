-- `names::read_full_parts` meets its contract: the volume name, the slash, and the short name behind it. Assumes nothing.
use mathlib.Core.Path.{sym, ap, ◌∙◌}
use Rattle.texts.specs.Inner.{read_by}
use Rattle.names.specs.Inner.{name_of}
use Rattle.names.proofs.Laws.Full.{full_begun, full_stops}
use Rattle.texts.proofs.Laws.Steps.{word_stops, word_on}
use Rattle.names.proofs.read_full_parts.Goals as goal

pub returns-in_err-slash : goal.returns-in_err-slash
returns-in_err-slash c = full_stops c.args.name.now c.read.ensures c.in_err-slash.was c.from_residual.ensures.1

pub returns-in_err-at : goal.returns-in_err-at
returns-in_err-at c = word_stops name_of (full_begun c.args.name.now c.read.ensures c.in_ok-slash.was) c.word.ensures c.in_err-at.was c.from_residual-in_err-at.ensures.1

pub returns : goal.returns
returns c = c.read-2.ensures ∙ sym (ap (read_by name_of) (word_on (full_begun c.args.name.now c.read.ensures c.in_ok-slash.was) c.word.ensures c.in_ok-at.was).is)
