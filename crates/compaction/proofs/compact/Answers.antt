-- `compaction::compact` meets its contract: each answer is that of its case. Assumes nothing.
use Prim.Native.Nat.{◌≤◌}
use native.Mathlib.Omega.{arith}
use mathlib.Core.Path.{◌≡◌, refl, sym, ◌∙◌}
use Rattle.slices.specs.Refusals.{check_outcome, checked}
use Rattle.std.specs.Prelude.{Ok}
use Rattle.slices.proofs.Laws.Refusals.{check_accepts}
use Rattle.blocks.specs.Blocks.{smallest, largest}
use Rattle.blocks.proofs.Laws.Blocks.{block_range}
use Rattle.compaction.proofs.Laws.Calls.{compact_21, compact_8, compact_refused, compact_accepted}
use Rattle.outcomes.proofs.Laws.Answers.{replies_refused, replies_as}
use Rattle.std.proofs.lemmas.Result.{err_from_is_err_and}
use Rattle.compaction.proofs.compact.Goals as goal
use Rattle.compaction.proofs.compact.Goals.{In_ok-check_list, Else-not-block_allowed}

-- the list is accepted
accepted : (c : In_ok-check_list) → checked (check_outcome c.args.list.now) ≡ Ok c.in_ok-check_list.field-0
accepted c = sym c.check_list.ensures ∙ c.in_ok-check_list.was

-- the block size is in range
ranged : (c : Else-not-block_allowed) → (smallest ≤ c.args.block_size) × (c.args.block_size ≤ largest)
ranged c = block_range _ (sym c.block_allowed.ensures ∙ c.if-not-block_allowed.false)

pub returns-then-index-gt-MAX_INDEX : goal.returns-then-index-gt-MAX_INDEX
returns-then-index-gt-MAX_INDEX c =
    replies_refused _ _ _ _ (compact_21 _ _ _ _ _ _ _ c.if-index-gt-MAX_INDEX.true) c.from.ensures (refl, (refl, tt))

pub overflow_cast-index : goal.overflow_cast-index
overflow_cast-index c = omega (arith, c.if-index-gt-MAX_INDEX.false)

pub overflow_cast-block_size : goal.overflow_cast-block_size
overflow_cast-block_size c = omega (arith, ranged (goal.at.overflow_cast-block_size c).Else-not-block_allowed)

pub of-block-requires : goal.of-block-requires
of-block-requires c = sym c.block_allowed.ensures ∙ c.if-not-block_allowed.false

pub compact_accepted-requires : goal.compact_accepted-requires
compact_accepted-requires c =
    record { accepts = check_accepts _ _ (accepted (goal.at.compact_accepted-requires c).In_ok-check_list) }

pub returns-in_err-check_list : goal.returns-in_err-check_list
returns-in_err-check_list c =
    let p = err_from_is_err_and c.from_residual.result c.from_residual.ensures.1 in
    rw (p.1, p.2) (replies_refused _ _ _ _ (compact_refused _ _ _ _ _ _ _ c.if-index-gt-MAX_INDEX.false _ c.block_allowed.ensures c.if-not-block_allowed.false _ (sym c.check_list.ensures ∙ c.in_err-check_list.was)) refl (refl, (refl, tt)))

pub returns : goal.returns
returns c =
    replies_as _ _ _ _
    (compact_accepted _ _ _ _ _ _ _ c.if-index-gt-MAX_INDEX.false _ c.block_allowed.ensures c.if-not-block_allowed.false _ (accepted (goal.at.returns c).In_ok-check_list))
    (rw c.of-block.ensures at c.compact_accepted.ensures)

pub returns-then-not-block_allowed : goal.returns-then-not-block_allowed
returns-then-not-block_allowed c =
    replies_refused _ _ _ _ (compact_8 _ _ _ _ _ _ _ c.if-index-gt-MAX_INDEX.false _ c.block_allowed.ensures c.if-not-block_allowed.true) c.from-then-not-block_allowed.ensures (refl, (refl, tt))
