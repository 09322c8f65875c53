-- `ezumokarin::naming::ezk_read_object_name` meets its contract: it passes the answer on. Assumes nothing.
use mathlib.Core.Path.{ap, ◌∙◌}
use Rattle.std.specs.Prelude.{Result}
use Rattle.outcomes.specs.Outcome.{Refusal}
use Rattle.names.specs.declared.ObjectName.{ObjectName}
use Rattle.ezumokarin.specs.Names.{plain_object}
use Rattle.ezumokarin.proofs.Laws.{plain_object_lem}
use Rattle.ezumokarin.proofs.naming.ezk_read_object_name.Goals as goal

pub returns : goal.returns
returns c =
    c.of_object.ensures ∙ ap (λ (n : Result ObjectName Refusal). plain_object n 0) c.read_object_name.ensures ∙ plain_object_lem _
