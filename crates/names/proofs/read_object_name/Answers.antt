-- `names::read_object_name` meets its contract: the name is read from the start. Assumes nothing.
use Rattle.std.proofs.Common.{rules}
use mathlib.Core.Path.{refl}
use Rattle.texts.proofs.Laws.Calls.{answers_read}
use Rattle.names.specs.Inner.{name_of}
use Rattle.names.specs.Names.{object_of, named, read_object}
use Rattle.names.proofs.read_object_name.Goals as goal

pub returns : goal.returns
unfolding read_object
returns c = answers_read name_of object_of named (λ ns. refl) _ _ (rw c.read.ensures at c.map_err.ensures.cases) (λ i r q. search rules)
