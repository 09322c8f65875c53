-- `views::view` meets its contract: each answer is that of its case. Assumes nothing.
use native.Mathlib.Omega.{arith}
use mathlib.Core.Path.{◌≡◌, sym, ◌∙◌}
use Rattle.slices.specs.Limits.{chunk}
use Rattle.slices.specs.Record.{count}
use Rattle.slices.specs.Refusals.{check_outcome, checked}
use Rattle.std.specs.Prelude.{Ok}
use Rattle.outcomes.proofs.Laws.Answers.{answers_refused, answers_refusal, answers_as}
use Rattle.slices.proofs.Laws.Refusals.{check_accepts, check_counts}
use Rattle.views.proofs.Laws.Calls.{view_7, view_refused, view_runs_lem}
use Rattle.std.proofs.lemmas.Result.{err_from_is_err_and}
use Rattle.views.proofs.view.Goals as goal
use Rattle.views.proofs.view.Goals.{In_ok-n}

-- the list is accepted
accepted : (c : In_ok-n) → checked (check_outcome c.args.list.now) ≡ Ok c.in_ok-n.n
accepted c = sym c.check_list.ensures ∙ c.in_ok-n.was

pub returns-then-chunk_len : goal.returns-then-chunk_len
unfolding chunk
returns-then-chunk_len c = answers_refusal _ _ _ _ (view_7 _ _ _ c.if-chunk_len.true) c.from.ensures

pub sized-requires-clause-all : goal.sized-requires-clause-all
sized-requires-clause-all c = (check_accepts _ _ (accepted (goal.at.sized-requires-clause-all c).In_ok-n)).pass

pub sized-requires-clause-list_bound : goal.sized-requires-clause-list_bound
unfolding chunk count
sized-requires-clause-list_bound c = (omega (arith, check_counts _ _ (accepted (goal.at.sized-requires-clause-list_bound c).In_ok-n), c.if-n-le4.true), c.if-chunk_len.false)

pub returns-then-n-le4 : goal.returns-then-n-le4
unfolding chunk
returns-then-n-le4 c =
    answers_as _ _ _ _ _ (view_runs_lem _ _ (accepted (goal.at.returns-then-n-le4 c).In_ok-n) _ _ c.if-chunk_len.false) c.sized.ensures

pub sized-requires-then-n-le32-clause-all : goal.sized-requires-then-n-le32-clause-all
sized-requires-then-n-le32-clause-all c = (check_accepts _ _ (accepted (goal.at.sized-requires-then-n-le32-clause-all c).In_ok-n)).pass

pub sized-requires-then-n-le32-clause-list_bound : goal.sized-requires-then-n-le32-clause-list_bound
unfolding chunk count
sized-requires-then-n-le32-clause-list_bound c = (omega (arith, check_counts _ _ (accepted (goal.at.sized-requires-then-n-le32-clause-list_bound c).In_ok-n), c.if-n-le32.true), c.if-chunk_len.false)

pub returns-then-n-le32 : goal.returns-then-n-le32
unfolding chunk
returns-then-n-le32 c =
    answers_as _ _ _ _ _ (view_runs_lem _ _ (accepted (goal.at.returns-then-n-le32 c).In_ok-n) _ _ c.if-chunk_len.false) c.sized-then-n-le32.ensures

pub many-requires : goal.many-requires
unfolding chunk
many-requires c =
    let a = check_accepts _ _ (accepted (goal.at.many-requires c).In_ok-n) in
    record { all = a.pass; list_bound = (a.few, c.if-chunk_len.false) }

pub returns-in_err-n : goal.returns-in_err-n
unfolding chunk
returns-in_err-n c =
    let p = err_from_is_err_and c.from_residual.result c.from_residual.ensures.1 in
    rw (p.1, p.2) (answers_refused _ _ _ (view_refused _ _ _ c.if-chunk_len.false _ (sym c.check_list.ensures ∙ c.in_err-n.was)))

pub returns : goal.returns
unfolding chunk
returns c =
    answers_as _ _ _ _ _ (view_runs_lem _ _ (accepted (goal.at.returns c).In_ok-n) _ _ c.if-chunk_len.false) c.many.ensures
