-- `history::part` meets its contract: in each arm the answer is known. Assumes nothing.
use mathlib.Core.Path.{◌≡◌, sym, ap, ◌∙◌}
use lib.ListN.{length}
use Rattle.codec.proofs.Laws.All.{rest_whole}
use Rattle.history.specs.History.{history_outcome, told}
use Rattle.std.specs.Prelude.{Ok}
use mathlib.Core.Bool.{false}
use Rattle.history.proofs.Laws.Calls.{no_shorter, part_no, part_yes, part_refused}
use Rattle.history.proofs.part.Goals as goal
use Rattle.history.proofs.part.Goals.{In-Ok-false}

-- the list was not rewritten
not_rewritten : (c : In-Ok-false) → told (history_outcome c.args.older.now c.args.newer.now) ≡ Ok false
not_rewritten c = sym c.requires ∙ c.in-Ok-false.is ∙ ap Ok (rw c.in-Ok-false.is at c.in-Ok-false.field-0-test)

pub slice_bounds-result-count : goal.slice_bounds-result-count
slice_bounds-result-count c = no_shorter _ _ (not_rewritten c)

pub slice_bounds-result-start : goal.slice_bounds-result-start
slice_bounds-result-start c = no_shorter _ _ (not_rewritten c)

pub returns-in-Ok-false : goal.returns-in-Ok-false
returns-in-Ok-false c =
    let a = c.args in
    rest_whole a.newer.now (length a.older.now) ∙ sym (part_no _ _ (not_rewritten (goal.at.returns-in-Ok-false c).In-Ok-false))

pub returns-in-Ok-true : goal.returns-in-Ok-true
returns-in-Ok-true c = sym (part_yes _ _ (sym c.requires ∙ c.in-Ok-true.is ∙ ap Ok (rw c.in-Ok-true.is at c.in-Ok-true.field-0-test)))

pub returns-in-Err : goal.returns-in-Err
returns-in-Err c = sym (part_refused _ _ _ (sym c.requires ∙ c.in-Err.is))
