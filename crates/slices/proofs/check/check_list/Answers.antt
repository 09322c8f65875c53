-- `slices::check::check_list` meets its contract: 1, 2, and then the first refused record, with the number that its place tells. Assumes nothing.
use native.Mathlib.Omega.{arith}
use mathlib.Core.Path.{ap}
use borrow.Author.Tests.{eq-eqb, ne_eqb}
use Rattle.outcomes.specs.Answers.{answer_of}
use Rattle.slices.specs.Record.{count}
use Rattle.std.specs.Prelude.{Err}
use Rattle.slices.proofs.Laws.Refusals.{check_1, check_2, check_start}
use Rattle.slices.proofs.check.check_list.Goals as goal

pub returns-then-list-ne0 : goal.returns-then-list-ne0
unfolding answer_of
returns-then-list-ne0 c = rw (check_1 c.args.list.now c.if-list-ne0.true) (ap Err c.from.ensures)

pub returns-then-n-gt-RECORDS : goal.returns-then-n-gt-RECORDS
unfolding answer_of count
returns-then-n-gt-RECORDS c =
    rw (check_2 c.args.list.now c.if-list-ne0.false c.if-n-gt-RECORDS.true) (ap Err c.from-then-n-gt-RECORDS.ensures)

pub refused_at-place-requires : goal.refused_at-place-requires
unfolding count
refused_at-place-requires c = c.if-n-gt-RECORDS.false

pub returns-then-place-n : goal.returns-then-place-n
unfolding answer_of count
returns-then-place-n c =
    rw (check_start _ c.if-list-ne0.false c.if-n-gt-RECORDS.false, c.refused_at-place.ensures.says, eq-eqb _ _ c.if-place-n.true)

pub kind_at-requires : goal.kind_at-requires
unfolding count
kind_at-requires c = omega (arith, c.refused_at-place.ensures.within, c.if-place-n.false)

pub returns : goal.returns
unfolding answer_of count
returns c =
    rw (check_start _ c.if-list-ne0.false c.if-n-gt-RECORDS.false, c.refused_at-place.ensures.says, ne_eqb _ _ c.if-place-n.false, c.at.ensures, c.kind_at.ensures)
