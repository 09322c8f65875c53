-- `names::read_full_name` meets its contract: what reading all its parts finds. Assumes nothing.
use Rattle.std.proofs.Common.{rules}
use mathlib.Core.Path.{refl, ◌∙◌}
use Rattle.texts.proofs.Laws.Calls.{answers_read}
use Rattle.names.specs.Inner.{name_of}
use Rattle.names.specs.Names.{object_of, named}
use Rattle.names.proofs.Laws.Full.{full_same}
use Rattle.names.proofs.read_full_name.Goals as goal

pub returns : goal.returns
returns c =
    answers_read name_of object_of named (λ ns. refl) _ _ (rw c.read_full_parts.ensures at c.map_err.ensures.cases) (λ i r q. search rules) ∙ full_same c.args.name.now
