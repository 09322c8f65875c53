-- `ezumokarin::steps::ezk_next_piece` meets its contract: it passes the answer on. Assumes nothing.
use mathlib.Core.Path.{ap, ◌∙◌}
use Rattle.std.specs.Prelude.{Option, Result}
use Rattle.stepping.specs.declared.Given.{Given}
use Rattle.outcomes.specs.Outcome.{Refusal}
use Rattle.ezumokarin.specs.Steps.{plain_next}
use Rattle.ezumokarin.proofs.Laws.{plain_next_lem}
use Rattle.ezumokarin.proofs.steps.ezk_next_piece.Goals as goal

pub returns : goal.returns
returns c =
    c.of_next.ensures ∙ ap (λ (n : Result (Option Given) Refusal). plain_next n c.args.at) c.next_piece.ensures ∙ plain_next_lem _ _
