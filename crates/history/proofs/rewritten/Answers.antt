-- `history::rewritten` meets its contract: each answer is that of its case. Assumes nothing.
use mathlib.Core.Path.{◌≡◌, sym, ap, ◌∙◌}
use mathlib.Core.Bool.{not}
use Rattle.std.proofs.lemmas.Result.{err_from_is_err_and}
use Rattle.slices.specs.Refusals.{check_outcome, checked}
use Rattle.std.specs.Prelude.{Ok}
use Rattle.history.proofs.Laws.Calls.{told_of_refused, told_of_done, history_older, history_newer, history_both}
use Rattle.history.proofs.rewritten.Goals as goal
use Rattle.history.proofs.rewritten.Goals.{In_ok-check_list}

pub returns-in_err-check_list : goal.returns-in_err-check_list
returns-in_err-check_list c =
    let p = err_from_is_err_and c.from_residual.result c.from_residual.ensures.1 in
    rw (p.1, p.2) (told_of_refused _ _ (history_older _ _ _ (sym c.check_list.ensures ∙ c.in_err-check_list.was)))

-- the older list is accepted
older_accepted : (c : In_ok-check_list) → checked (check_outcome c.args.older.now) ≡ Ok c.in_ok-check_list.field-0
older_accepted c = sym c.check_list.ensures ∙ c.in_ok-check_list.was

pub returns-in_err-check_list-2 : goal.returns-in_err-check_list-2
returns-in_err-check_list-2 c =
    let p = err_from_is_err_and c.from_residual-in_err-check_list-2.result c.from_residual-in_err-check_list-2.ensures.1 in
    rw (p.1, p.2)
    (told_of_refused _ _ (history_newer _ _ _ (older_accepted (goal.at.returns-in_err-check_list-2 c).In_ok-check_list) _ (sym c.check_list-2.ensures ∙ c.in_err-check_list-2.was)))

pub returns : goal.returns
returns c =
    told_of_done _ _ (history_both _ _ _ (older_accepted (goal.at.returns c).In_ok-check_list) _ (sym c.check_list-2.ensures ∙ c.in_ok-check_list-2.was)) (ap not (sym c.begins.ensures))
