-- `ezumokarin::steps::ezk_next_file_piece` meets its contract: it passes the answer on. Assumes nothing.
use mathlib.Core.Path.{ap, ◌∙◌}
use Rattle.std.specs.Prelude.{Option, Result}
use Rattle.stepping.specs.declared.Given.{Given}
use Rattle.joined.specs.Refusals.{ListRefusal}
use Rattle.ezumokarin.specs.Steps.{plain_file_next}
use Rattle.ezumokarin.proofs.Laws.{plain_file_next_lem}
use Rattle.ezumokarin.proofs.steps.ezk_next_file_piece.Goals as goal

pub returns : goal.returns
returns c =
    c.of_file_next.ensures ∙ ap (λ (n : Result (Option Given) ListRefusal). plain_file_next n c.args.at) c.next_file_piece.ensures ∙ plain_file_next_lem _ _
