-- `ezumokarin::seeks::ezk_find` meets its contract: it passes the answer on. Assumes nothing.
use mathlib.Core.Path.{ap, ◌∙◌}
use Rattle.ezumokarin.specs.Seeks.{plain_sought}
use Rattle.ezumokarin.proofs.Laws.{plain_sought_lem}
use Rattle.ezumokarin.proofs.seeks.ezk_find.Goals as goal

pub returns : goal.returns
returns c = c.from.ensures ∙ ap plain_sought c.find_in.ensures ∙ plain_sought_lem _
