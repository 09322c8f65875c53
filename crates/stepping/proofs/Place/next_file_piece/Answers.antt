-- `stepping::Place::next_file_piece` meets its contract: each answer is that of its case. Assumes nothing.
use Prim.Native.Nat.{◌*◌, ◌≤◌}
use native.Mathlib.Omega.{arith}
use mathlib.Core.Path.{◌≡◌, refl, sym, ap, ◌∙◌}
use mathlib.Core.Bool.{true, false}
use lib.ListN.{length}
use Rattle.slices.specs.Limits.{chunk}
use Rattle.blocks.specs.Blocks.{block_allowed}
use Rattle.blocks.proofs.Laws.Blocks.{block_range}
use Rattle.joined.specs.Lists.{parts}
use Rattle.joined.specs.Refusals.{lists_outcome, checked_lists}
use Rattle.std.specs.Prelude.{Ok, Err}
use Rattle.joined.proofs.Laws.Refusals.{lists_accepted, said_accepted}
use Rattle.files.specs.Calls.{wrong_chunks}
use Rattle.files.specs.File.{file_end}
use Rattle.files.proofs.Laws.Chunks.{Right, right_chunks}
use Rattle.files.proofs.Laws.Calls.{chunks_21, chunks_8, chunks_refused, accepted_count}
use Rattle.stepping.proofs.Laws.File.{next_file_refused, next_file_finished, next_file_given}
use Rattle.std.proofs.lemmas.Result.{err_from_is_err_and}
use Rattle.stepping.proofs.Place.next_file_piece.Goals as goal
use Rattle.stepping.proofs.Place.next_file_piece.Goals.{Else-wrong_chunks, In_ok-n, Else-not-block_allowed}

-- the chunks are not wrong
not_wrong : (c : Else-wrong_chunks) → let a = c.args in wrong_chunks a.lengths.now (length a.lists.now) a.first_index ≡ false
not_wrong c = sym c.wrong_chunks.ensures ∙ c.if-wrong_chunks.false

right : (c : Else-wrong_chunks) → let a = c.args in Right a.lengths.now (length a.lists.now) a.first_index
right c = right_chunks _ _ _ (not_wrong c)

-- the block size is allowed
allowed : (c : Else-not-block_allowed) → block_allowed c.args.block_size ≡ true
allowed c = sym c.block_allowed.ensures ∙ c.if-not-block_allowed.false

-- all lists are accepted
told : (c : In_ok-n) → let a = c.args in checked_lists (lists_outcome a.first_index (parts a.lengths.now a.lists.now)) ≡ Ok c.in_ok-n.n
told c = sym c.check_lists.ensures ∙ c.in_ok-n.was

pub returns-then-wrong_chunks : goal.returns-then-wrong_chunks
returns-then-wrong_chunks c =
    (ap Err c.from.ensures) ∙ next_file_refused _ _ _ _ _ _ _ _ _ _ (chunks_21 _ _ _ _ _ (sym c.wrong_chunks.ensures ∙ c.if-wrong_chunks.true)) refl

pub check_lists-requires : goal.check_lists-requires
check_lists-requires c =
    let r = right (goal.at.check_lists-requires c).Else-wrong_chunks in
    record { lengths_value = r.adds; lengths_bound = omega (arith, r.indexes) }

pub file_end-requires : goal.file_end-requires
file_end-requires c =
    let r = right (goal.at.file_end-requires c).Else-wrong_chunks in
    (omega (arith, r.indexes, r.some), omega (arith, r.few, accepted_count _ _ _ _ (told (goal.at.file_end-requires c).In_ok-n)))

pub cut-read-requires : goal.cut-read-requires
unfolding file_end chunk
cut-read-requires c =
    let r = right (goal.at.cut-read-requires c).Else-wrong_chunks in
    omega (arith, c.file_end.ensures, r.few, accepted_count _ _ _ _ (told (goal.at.cut-read-requires c).In_ok-n))

pub bytes_of-requires : goal.bytes_of-requires
bytes_of-requires c = c.cut-read.ensures.order

pub returns-then-bytes_of-at : goal.returns-then-bytes_of-at
returns-then-bytes_of-at c =
    next_file_finished _ _ _ _ _ _ _ _ (not_wrong (goal.at.returns-then-bytes_of-at c).Else-wrong_chunks) (allowed (goal.at.returns-then-bytes_of-at c).Else-not-block_allowed) _ (told (goal.at.returns-then-bytes_of-at c).In_ok-n) _ _ (rw c.file_end.ensures at c.cut-read.ensures) (omega (arith, c.if-bytes_of-at.true, c.bytes_of.ensures))

pub overflow_cast-first_index : goal.overflow_cast-first_index
overflow_cast-first_index c =
    let r = right (goal.at.overflow_cast-first_index c).Else-wrong_chunks in
    omega (arith, r.indexes, r.some)

pub overflow_cast-block_size : goal.overflow_cast-block_size
overflow_cast-block_size c = omega (arith, block_range _ (allowed (goal.at.overflow_cast-block_size c).Else-not-block_allowed))

pub of-requires : goal.of-requires
of-requires c = allowed (goal.at.of-requires c).Else-not-block_allowed

pub piece_in-piece-requires : goal.piece_in-piece-requires
unfolding file_end
piece_in-piece-requires c =
    let r = right (goal.at.piece_in-piece-requires c).Else-wrong_chunks in
    let u = c.cut-read.ensures in
    let m = accepted_count _ _ _ _ (told (goal.at.piece_in-piece-requires c).In_ok-n) in
    let within : c.cut-read.result.end ≤ length c.args.lengths.now * chunk = rw (← m) (omega (arith, u.within, c.file_end.ensures)) in
    record { lengths_value = (r.adds, lists_accepted _ _ _ (said_accepted _ _ (told (goal.at.piece_in-piece-requires c).In_ok-n))); lengths_len_bound = (r.few, r.indexes); p_lt_end = (omega (arith, c.if-bytes_of-at.false, c.bytes_of.ensures, u.order), within) }

pub behind-requires : goal.behind-requires
behind-requires c = omega (arith, c.if-bytes_of-at.false, c.bytes_of.ensures)

pub returns-in_err-n : goal.returns-in_err-n
returns-in_err-n c =
    let p = err_from_is_err_and c.from_residual.result c.from_residual.ensures.1 in
    rw (p.1, p.2) (next_file_refused _ _ _ _ _ _ _ _ _ _ (chunks_refused _ _ _ _ _ (not_wrong (goal.at.returns-in_err-n c).Else-wrong_chunks) (allowed (goal.at.returns-in_err-n c).Else-not-block_allowed) _ (sym c.check_lists.ensures ∙ c.in_err-n.was)) refl)

pub returns : goal.returns
returns c =
    next_file_given _ _ _ _ _ _ _ _ (not_wrong (goal.at.returns c).Else-wrong_chunks) (allowed (goal.at.returns c).Else-not-block_allowed) _ (told (goal.at.returns c).In_ok-n) _ _ (rw c.file_end.ensures at c.cut-read.ensures) (omega (arith, c.if-bytes_of-at.false, c.bytes_of.ensures)) _ (rw c.of.ensures at c.piece_in-piece.ensures) _ c.behind.ensures

pub returns-then-not-block_allowed : goal.returns-then-not-block_allowed
returns-then-not-block_allowed c =
    (ap Err c.from-then-not-block_allowed.ensures)
    ∙ next_file_refused _ _ _ _ _ _ _ _ _ _ (chunks_8 _ _ _ _ _ (not_wrong (goal.at.returns-then-not-block_allowed c).Else-wrong_chunks) (sym c.block_allowed.ensures ∙ c.if-not-block_allowed.true)) refl
