-- `plans::read_plan` meets its contract: each answer is that of its case. Assumes nothing.
use Prim.Native.Nat.{◌≤◌}
use native.Mathlib.Omega.{arith}
use mathlib.Core.Path.{◌≡◌, sym, ◌∙◌}
use Rattle.slices.specs.Limits.{chunk}
use Rattle.slices.specs.Refusals.{check_outcome, checked}
use Rattle.std.specs.Prelude.{Ok}
use Rattle.outcomes.proofs.Laws.Answers.{answers_refused, answers_refusal, answers_as}
use Rattle.slices.proofs.Laws.Refusals.{check_accepts, check_counts}
use Rattle.blocks.specs.Blocks.{smallest, largest}
use Rattle.blocks.proofs.Laws.Blocks.{block_range}
use Rattle.plans.proofs.Laws.Calls.{read_7, read_21, read_8, read_refused, read_accepted}
use Rattle.slices.specs.Record.{count}
use Rattle.std.proofs.lemmas.Result.{err_from_is_err_and}
use Rattle.plans.proofs.read_plan.Goals as goal
use Rattle.plans.proofs.read_plan.Goals.{In_ok-n, Else-not-block_allowed}

-- the list is accepted
accepted : (c : In_ok-n) → checked (check_outcome c.args.list.now) ≡ Ok c.in_ok-n.n
accepted c = sym c.check_list.ensures ∙ c.in_ok-n.was

-- the block size is in range
ranged : (c : Else-not-block_allowed) → (smallest ≤ c.args.block_size) × (c.args.block_size ≤ largest)
ranged c = block_range _ (sym c.block_allowed.ensures ∙ c.if-not-block_allowed.false)

pub returns-then-chunk_len : goal.returns-then-chunk_len
unfolding chunk
returns-then-chunk_len c = answers_refusal _ _ _ _ (read_7 _ _ _ _ _ _ _ c.if-chunk_len.true) c.from.ensures

pub returns-then-index-gt-MAX_INDEX : goal.returns-then-index-gt-MAX_INDEX
unfolding chunk
returns-then-index-gt-MAX_INDEX c =
    answers_refusal _ _ _ _ (read_21 _ _ _ _ _ _ _ c.if-chunk_len.false c.if-index-gt-MAX_INDEX.true) c.from-then-index-gt-MAX_INDEX.ensures

pub cut-read-requires : goal.cut-read-requires
unfolding chunk
cut-read-requires c = omega arith

pub overflow_cast-block_size : goal.overflow_cast-block_size
overflow_cast-block_size c = omega (arith, ranged (goal.at.overflow_cast-block_size c).Else-not-block_allowed)

pub overflow_cast-index : goal.overflow_cast-index
overflow_cast-index c = omega (arith, c.if-index-gt-MAX_INDEX.false)

pub sized-requires-clause-all : goal.sized-requires-clause-all
sized-requires-clause-all c = (check_accepts _ _ (accepted (goal.at.sized-requires-clause-all c).In_ok-n)).pass

pub sized-requires-clause-list_bound : goal.sized-requires-clause-list_bound
unfolding chunk count
sized-requires-clause-list_bound c =
    (omega (arith, check_counts _ _ (accepted (goal.at.sized-requires-clause-list_bound c).In_ok-n), c.if-n-le32.true), c.cut-read.ensures.order, omega (arith, c.cut-read.ensures.within))

pub of-block-requires : goal.of-block-requires
of-block-requires c = sym c.block_allowed.ensures ∙ c.if-not-block_allowed.false

pub returns-then-n-le32 : goal.returns-then-n-le32
unfolding chunk
returns-then-n-le32 c =
    answers_as _ _ _ _ _
    (read_accepted _ _ _ _ _ _ _ c.if-chunk_len.false c.if-index-gt-MAX_INDEX.false _ c.block_allowed.ensures c.if-not-block_allowed.false _ (accepted (goal.at.returns-then-n-le32 c).In_ok-n) _ _ c.cut-read.ensures)
    (rw c.of-block.ensures at c.sized.ensures)

pub overflow_cast-index-2 : goal.overflow_cast-index-2
overflow_cast-index-2 c = omega (arith, c.if-index-gt-MAX_INDEX.false)

pub many-requires : goal.many-requires
unfolding chunk count
many-requires c =
    let accepts = check_accepts _ _ (accepted (goal.at.many-requires c).In_ok-n) in
    record { all = accepts.pass; list_bound = (accepts.few, c.cut-read.ensures.order, omega (arith, c.cut-read.ensures.within)) }

pub returns-in_err-n : goal.returns-in_err-n
unfolding chunk
returns-in_err-n c =
    let p = err_from_is_err_and c.from_residual.result c.from_residual.ensures.1 in
    rw (p.1, p.2) (answers_refused _ _ _
    (read_refused _ _ _ _ _ _ _ c.if-chunk_len.false c.if-index-gt-MAX_INDEX.false _ c.block_allowed.ensures c.if-not-block_allowed.false _ (sym c.check_list.ensures ∙ c.in_err-n.was)))

pub returns : goal.returns
unfolding chunk
returns c =
    answers_as _ _ _ _ _
    (read_accepted _ _ _ _ _ _ _ c.if-chunk_len.false c.if-index-gt-MAX_INDEX.false _ c.block_allowed.ensures c.if-not-block_allowed.false _ (accepted (goal.at.returns c).In_ok-n) _ _ c.cut-read.ensures)
    (rw c.of-block.ensures at c.many.ensures)

pub returns-then-not-block_allowed : goal.returns-then-not-block_allowed
unfolding chunk
returns-then-not-block_allowed c =
    answers_refusal _ _ _ _ (read_8 _ _ _ _ _ _ _ c.if-chunk_len.false c.if-index-gt-MAX_INDEX.false _ c.block_allowed.ensures c.if-not-block_allowed.true) c.from-then-not-block_allowed.ensures
