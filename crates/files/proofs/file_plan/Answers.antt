-- `files::file_plan` meets its contract: each answer is that of its case. Assumes nothing.
use native.Mathlib.Omega.{arith}
use mathlib.Core.Path.{◌≡◌, refl, sym, ◌∙◌}
use mathlib.Core.Bool.{true}
use lib.ListN.{length}
use Rattle.slices.specs.Limits.{chunk}
use Rattle.outcomes.proofs.Laws.Answers.{replies_refused, replies_as}
use Rattle.blocks.specs.Blocks.{block_allowed}
use Rattle.blocks.proofs.Laws.Blocks.{block_range}
use Rattle.joined.specs.Lists.{parts}
use Rattle.joined.specs.Refusals.{lists_outcome, checked_lists}
use Rattle.std.specs.Prelude.{Ok}
use Rattle.joined.proofs.Laws.Refusals.{lists_accepted, said_accepted}
use Rattle.files.specs.File.{file_end}
use Rattle.files.proofs.Laws.Chunks.{Right, right_chunks}
use Rattle.files.proofs.Laws.Calls.{file_21, file_8, file_refused, file_accepted, accepted_count}
use Rattle.std.proofs.lemmas.Result.{err_from_is_err_and}
use Rattle.files.proofs.file_plan.Goals as goal
use Rattle.files.proofs.file_plan.Goals.{Else-wrong_chunks, In_ok-n, Else-not-block_allowed}

-- the chunks are not wrong
right : (c : Else-wrong_chunks) → let a = c.args in Right a.lengths.now (length a.lists.now) a.first_index
right c = right_chunks _ _ _ (sym c.wrong_chunks.ensures ∙ c.if-wrong_chunks.false)

-- the block size is allowed
allowed : (c : Else-not-block_allowed) → block_allowed c.args.block_size ≡ true
allowed c = sym c.block_allowed.ensures ∙ c.if-not-block_allowed.false

-- all lists are accepted
told : (c : In_ok-n) → let a = c.args in checked_lists (lists_outcome a.first_index (parts a.lengths.now a.lists.now)) ≡ Ok c.in_ok-n.n
told c = sym c.check_lists.ensures ∙ c.in_ok-n.was

pub returns-then-wrong_chunks : goal.returns-then-wrong_chunks
returns-then-wrong_chunks c =
    rw c.from.ensures (replies_refused _ _ _ _ (file_21 _ _ _ _ _ _ _ _ (sym c.wrong_chunks.ensures ∙ c.if-wrong_chunks.true)) refl (refl, tt))

pub check_lists-requires : goal.check_lists-requires
check_lists-requires c =
    let r = right (goal.at.check_lists-requires c).Else-wrong_chunks in
    record { lengths_value = r.adds; lengths_bound = omega (arith, r.indexes) }

pub file_end-requires : goal.file_end-requires
file_end-requires c =
    let r = right (goal.at.file_end-requires c).Else-wrong_chunks in
    (omega (arith, r.indexes, r.some), omega (arith, r.few, accepted_count _ _ _ _ (told (goal.at.file_end-requires c).In_ok-n)))

pub cut-read-requires : goal.cut-read-requires
unfolding file_end chunk
cut-read-requires c =
    let r = right (goal.at.cut-read-requires c).Else-wrong_chunks in
    omega (arith, c.file_end.ensures, r.few, accepted_count _ _ _ _ (told (goal.at.cut-read-requires c).In_ok-n))

pub overflow_cast-first : goal.overflow_cast-first
overflow_cast-first c =
    let r = right (goal.at.overflow_cast-first c).Else-wrong_chunks in
    omega (arith, r.indexes, r.some)

pub overflow_cast-block_size : goal.overflow_cast-block_size
overflow_cast-block_size c = omega (arith, block_range _ (allowed (goal.at.overflow_cast-block_size c).Else-not-block_allowed))

pub of-block-requires : goal.of-block-requires
of-block-requires c = allowed (goal.at.of-block-requires c).Else-not-block_allowed

pub answer-requires : goal.answer-requires
answer-requires c =
    let r = right (goal.at.answer-requires c).Else-wrong_chunks in
    record { lengths_value = (r.adds, lists_accepted _ _ _ (said_accepted _ _ (told (goal.at.answer-requires c).In_ok-n))); lengths_len_bound = (r.few, r.indexes, c.cut-read.ensures.order) }

pub returns-in_err-n : goal.returns-in_err-n
returns-in_err-n c =
    let p = err_from_is_err_and c.from_residual.result c.from_residual.ensures.1 in
    rw (p.1, p.2) (replies_refused _ _ _ _
    (file_refused _ _ _ _ _ _ _ _ (sym c.wrong_chunks.ensures ∙ c.if-wrong_chunks.false) (allowed (goal.at.returns-in_err-n c).Else-not-block_allowed) _ (sym c.check_lists.ensures ∙ c.in_err-n.was)) refl (refl, tt))

pub returns : goal.returns
returns c =
    replies_as _ _ _ _
    (file_accepted _ _ _ _ _ _ _ _ (sym c.wrong_chunks.ensures ∙ c.if-wrong_chunks.false) (allowed (goal.at.returns c).Else-not-block_allowed) _ (told (goal.at.returns c).In_ok-n) _ _ (rw c.file_end.ensures at c.cut-read.ensures))
    (rw c.of-block.ensures at c.answer.ensures)

pub returns-then-not-block_allowed : goal.returns-then-not-block_allowed
returns-then-not-block_allowed c =
    rw c.from-then-not-block_allowed.ensures
    (replies_refused _ _ _ _
    (file_8 _ _ _ _ _ _ _ _ (sym c.wrong_chunks.ensures ∙ c.if-wrong_chunks.false) (sym c.block_allowed.ensures ∙ c.if-not-block_allowed.true)) refl (refl, tt))
