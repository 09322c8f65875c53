-- `judging::judge` meets its contract: each answer is that of its case. Assumes nothing.
use Prim.Native.Nat.{◌+◌, ◌-◌, ◌*◌, ◌≤◌}
use native.Mathlib.Omega.{arith}
use mathlib.Core.Path.{◌≡◌, refl, sym, ap, ◌∙◌}
use mathlib.Core.Bool.{true, false}
use lib.ListN.{length}
use Rattle.slices.specs.Limits.{chunk}
use Rattle.blocks.specs.Blocks.{block_allowed}
use Rattle.blocks.proofs.Laws.Blocks.{block_range}
use Rattle.joined.specs.Lists.{parts}
use Rattle.joined.specs.Refusals.{lists_outcome, checked_lists}
use Rattle.std.specs.Prelude.{Ok, Err}
use Rattle.joined.proofs.Laws.Refusals.{lists_accepted, said_accepted}
use Rattle.files.specs.Calls.{wrong_chunks}
use Rattle.files.specs.File.{file_end}
use Rattle.files.proofs.Laws.Chunks.{Right, right_chunks}
use Rattle.files.proofs.Laws.Calls.{chunks_21, chunks_8, chunks_refused, accepted_count}
use Rattle.judging.proofs.Laws.Answers.{judge_refused, judge_empty, judge_read}
use Rattle.std.proofs.lemmas.Result.{err_from_is_err_and}
use Rattle.judging.proofs.judge.Goals as goal
use Rattle.judging.proofs.judge.Goals.{Else-wrong_chunks, In_ok-n, Else-not-block_allowed}

-- the chunks are not wrong
not_wrong : (c : Else-wrong_chunks) → let a = c.args in wrong_chunks a.lengths.now (length a.lists.now) a.first_index ≡ false
not_wrong c = sym c.wrong_chunks.ensures ∙ c.if-wrong_chunks.false

right : (c : Else-wrong_chunks) → let a = c.args in Right a.lengths.now (length a.lists.now) a.first_index
right c = right_chunks _ _ _ (not_wrong c)

-- the block size is allowed
allowed : (c : Else-not-block_allowed) → block_allowed c.args.block_size ≡ true
allowed c = sym c.block_allowed.ensures ∙ c.if-not-block_allowed.false

-- all lists are accepted
told : (c : In_ok-n) → let a = c.args in checked_lists (lists_outcome a.first_index (parts a.lengths.now a.lists.now)) ≡ Ok c.in_ok-n.n
told c = sym c.check_lists.ensures ∙ c.in_ok-n.was

pub returns-then-wrong_chunks : goal.returns-then-wrong_chunks
returns-then-wrong_chunks c =
    (ap Err c.from.ensures) ∙ judge_refused _ _ _ _ _ _ _ _ _ _ (chunks_21 _ _ _ _ _ (sym c.wrong_chunks.ensures ∙ c.if-wrong_chunks.true)) refl

pub check_lists-requires : goal.check_lists-requires
check_lists-requires c =
    let r = right (goal.at.check_lists-requires c).Else-wrong_chunks in
    record { lengths_value = r.adds; lengths_bound = omega (arith, r.indexes) }

pub file_end-requires : goal.file_end-requires
file_end-requires c =
    let r = right (goal.at.file_end-requires c).Else-wrong_chunks in (omega (arith, r.indexes, r.some), omega (arith, r.few, accepted_count _ _ _ _ (told (goal.at.file_end-requires c).In_ok-n)))

pub cut-read-requires : goal.cut-read-requires
unfolding file_end chunk
cut-read-requires c =
    let r = right (goal.at.cut-read-requires c).Else-wrong_chunks in omega (arith, c.file_end.ensures, r.few, accepted_count _ _ _ _ (told (goal.at.cut-read-requires c).In_ok-n))

pub returns-then-read : goal.returns-then-read
returns-then-read c =
    judge_empty _ _ _ _ _ _ _ _ (not_wrong (goal.at.returns-then-read c).Else-wrong_chunks) (allowed (goal.at.returns-then-read c).Else-not-block_allowed) _ (told (goal.at.returns-then-read c).In_ok-n) _ _ (rw c.file_end.ensures at c.cut-read.ensures) c.if-read.true _ c.of_empty.ensures

pub overflow_cast-first : goal.overflow_cast-first
overflow_cast-first c =
    let r = right (goal.at.overflow_cast-first c).Else-wrong_chunks in omega (arith, r.indexes, r.some)

pub overflow_cast-block_size : goal.overflow_cast-block_size
overflow_cast-block_size c = omega (arith, block_range _ (allowed (goal.at.overflow_cast-block_size c).Else-not-block_allowed))

pub of-block-requires : goal.of-block-requires
of-block-requires c = allowed (goal.at.of-block-requires c).Else-not-block_allowed

pub of_read-requires : goal.of_read-requires
unfolding file_end
of_read-requires c =
    let r = right (goal.at.of_read-requires c).Else-wrong_chunks in
    let u = c.cut-read.ensures in
    let m = accepted_count _ _ _ _ (told (goal.at.of_read-requires c).In_ok-n) in
    let within : c.cut-read.result.from + (c.cut-read.result.end - c.cut-read.result.from) ≤ length c.args.lengths.now * chunk = rw (← m) (omega (arith, u.within, u.order, c.file_end.ensures)) in
    record { lengths_value = (r.adds, lists_accepted _ _ _ (said_accepted _ _ (told (goal.at.of_read-requires c).In_ok-n))); lengths_len_bound = (r.few, within) }

pub returns-in_err-n : goal.returns-in_err-n
returns-in_err-n c =
    let p = err_from_is_err_and c.from_residual.result c.from_residual.ensures.1 in
    rw (p.1, p.2) (judge_refused _ _ _ _ _ _ _ _ _ _ (chunks_refused _ _ _ _ _ (not_wrong (goal.at.returns-in_err-n c).Else-wrong_chunks) (allowed (goal.at.returns-in_err-n c).Else-not-block_allowed) _ (sym c.check_lists.ensures ∙ c.in_err-n.was)) refl)

pub returns : goal.returns
returns c =
    judge_read _ _ _ _ _ _ _ _ (not_wrong (goal.at.returns c).Else-wrong_chunks) (allowed (goal.at.returns c).Else-not-block_allowed) _ (told (goal.at.returns c).In_ok-n) _ _ (rw c.file_end.ensures at c.cut-read.ensures) c.if-read.false _ (rw c.of-block.ensures at c.of_read.ensures)

pub returns-then-not-block_allowed : goal.returns-then-not-block_allowed
returns-then-not-block_allowed c =
    (ap Err c.from-then-not-block_allowed.ensures) ∙ judge_refused _ _ _ _ _ _ _ _ _ _ (chunks_8 _ _ _ _ _ (not_wrong (goal.at.returns-then-not-block_allowed c).Else-wrong_chunks) (sym c.block_allowed.ensures ∙ c.if-not-block_allowed.true)) refl
