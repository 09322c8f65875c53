-- `seeking::find_in` meets its contract: refusal 1, or what the search finds. Assumes nothing.
use native.Mathlib.Omega.{arith}
use mathlib.Core.Path.{ap, ◌∙◌}
use Rattle.outcomes.specs.Answers.{answer_of}
use Rattle.slices.specs.Record.{count}
use Rattle.std.specs.Prelude.{Ok, Err}
use Rattle.seeking.proofs.Laws.Seek.{view_1, view_whole}
use Rattle.seeking.proofs.find_in.Goals as goal

pub returns-then-view-ne0 : goal.returns-then-view-ne0
unfolding answer_of
returns-then-view-ne0 c = rw (view_1 _ _ _ c.if-view-ne0.true) (ap Err c.from.ensures)

pub seek-requires : goal.seek-requires
unfolding count
seek-requires c = omega (arith, c.fewer-n.ensures)

pub returns : goal.returns
unfolding answer_of count
returns c = rw (view_whole _ _ _ c.if-view-ne0.false) (ap Ok (c.seek.ensures ∙ rw c.fewer-n.ensures))
