-- `stepping::Place::next_piece` meets its contract: each answer is that of its case. Assumes nothing.
use native.Mathlib.Omega.{arith}
use mathlib.Core.Path.{◌≡◌, refl, sym, ◌∙◌}
use mathlib.Core.Bool.{true}
use Rattle.slices.specs.Limits.{chunk}
use Rattle.slices.specs.Refusals.{check_outcome, checked}
use Rattle.std.specs.Prelude.{Ok}
use Rattle.slices.proofs.Laws.Refusals.{check_accepts}
use Rattle.blocks.specs.Blocks.{block_allowed}
use Rattle.blocks.proofs.Laws.Blocks.{block_range}
use Rattle.plans.proofs.Laws.Calls.{chunk_7, chunk_21, chunk_8, chunk_refused}
use Rattle.stepping.proofs.Laws.Chunk.{next_refused, next_finished, next_given}
use Rattle.std.proofs.lemmas.Result.{err_from_is_err_and}
use Rattle.stepping.proofs.Place.next_piece.Goals as goal
use Rattle.stepping.proofs.Place.next_piece.Goals.{In_ok-check_list, Else-not-block_allowed}

-- the list is accepted
accepted : (c : In_ok-check_list) → checked (check_outcome c.args.list.now) ≡ Ok c.in_ok-check_list.field-0
accepted c = sym c.check_list.ensures ∙ c.in_ok-check_list.was

-- the block size is allowed
allowed : (c : Else-not-block_allowed) → block_allowed c.args.block_size ≡ true
allowed c = sym c.block_allowed.ensures ∙ c.if-not-block_allowed.false

pub returns-then-chunk_len : goal.returns-then-chunk_len
unfolding chunk
returns-then-chunk_len c = next_refused _ _ _ _ _ _ _ _ _ (chunk_7 _ _ _ _ _ c.if-chunk_len.true) c.from.ensures

pub returns-then-index-gt-MAX_INDEX : goal.returns-then-index-gt-MAX_INDEX
unfolding chunk
returns-then-index-gt-MAX_INDEX c =
    next_refused _ _ _ _ _ _ _ _ _ (chunk_21 _ _ _ _ _ c.if-chunk_len.false c.if-index-gt-MAX_INDEX.true) c.from-then-index-gt-MAX_INDEX.ensures

pub bytes_of-requires : goal.bytes_of-requires
bytes_of-requires c = c.cut-read.ensures.order

pub returns-then-bytes_of-at : goal.returns-then-bytes_of-at
unfolding chunk
returns-then-bytes_of-at c =
    next_finished _ _ _ _ _ _ _ c.if-chunk_len.false c.if-index-gt-MAX_INDEX.false _ c.block_allowed.ensures c.if-not-block_allowed.false _ (accepted (goal.at.returns-then-bytes_of-at c).In_ok-check_list) _ _ c.cut-read.ensures (omega (arith, c.if-bytes_of-at.true, c.bytes_of.ensures))

pub overflow_cast-block_size : goal.overflow_cast-block_size
overflow_cast-block_size c = omega (arith, block_range _ (allowed (goal.at.overflow_cast-block_size c).Else-not-block_allowed))

pub of-requires : goal.of-requires
of-requires c = allowed (goal.at.of-requires c).Else-not-block_allowed

pub piece_at-piece-requires : goal.piece_at-piece-requires
unfolding chunk
piece_at-piece-requires c =
    let u = c.cut-read.ensures in
    record { accepts = check_accepts _ _ (accepted (goal.at.piece_at-piece-requires c).In_ok-check_list); p_lt_end = (omega (arith, c.if-bytes_of-at.false, c.bytes_of.ensures, u.order), omega (arith, u.within)) }

pub behind-requires : goal.behind-requires
behind-requires c = omega (arith, c.if-bytes_of-at.false, c.bytes_of.ensures)

pub returns-in_err-check_list : goal.returns-in_err-check_list
unfolding chunk
returns-in_err-check_list c =
    let p = err_from_is_err_and c.from_residual.result c.from_residual.ensures.1 in
    rw (p.1, p.2) (next_refused _ _ _ _ _ _ _ _ _
    (chunk_refused _ _ _ _ _ c.if-chunk_len.false c.if-index-gt-MAX_INDEX.false _ c.block_allowed.ensures c.if-not-block_allowed.false _ (sym c.check_list.ensures ∙ c.in_err-check_list.was)) refl)

pub returns : goal.returns
unfolding chunk
returns c =
    next_given _ _ _ _ _ _ _ c.if-chunk_len.false c.if-index-gt-MAX_INDEX.false _ c.block_allowed.ensures c.if-not-block_allowed.false _ (accepted (goal.at.returns c).In_ok-check_list) _ _ c.cut-read.ensures (omega (arith, c.if-bytes_of-at.false, c.bytes_of.ensures)) _ (rw c.of.ensures at c.piece_at-piece.ensures) _ c.behind.ensures

pub returns-then-not-block_allowed : goal.returns-then-not-block_allowed
unfolding chunk
returns-then-not-block_allowed c =
    next_refused _ _ _ _ _ _ _ _ _ (chunk_8 _ _ _ _ _ c.if-chunk_len.false c.if-index-gt-MAX_INDEX.false _ c.block_allowed.ensures c.if-not-block_allowed.true) c.from-then-not-block_allowed.ensures
