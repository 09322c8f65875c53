-- `outcomes::deliver` meets its contract: too short a buffer is refused and kept. Assumes nothing.
use native.Mathlib.Omega.{arith}
use mathlib.Core.Path.{sym, ap, ◌∙◌}
use lib.ListN.{length}
use Rattle.outcomes.specs.Outcome.{refused}
use Rattle.outcomes.proofs.Laws.Outcome.{short_refused, short_done}
use Rattle.outcomes.proofs.Laws.Answers.{answers_refused, answers_done}
use Rattle.outcomes.proofs.deliver.Goals as goal

pub returns-then-out-bytes : goal.returns-then-out-bytes
returns-then-out-bytes c =
    let a = c.args in
    answers_refused _ _ a.out.now (short_refused a.bytes.now (length a.out.now) c.if-out-bytes.true ∙ ap refused (sym c.from.ensures))

pub returns : goal.returns
returns c =
    let a = c.args in
    answers_done _ a.bytes.now a.out.now _ _ (short_done a.bytes.now (length a.out.now) c.if-out-bytes.false) (omega (arith, c.put.ensures.0)) c.put.ensures.1
