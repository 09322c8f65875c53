-- `names::block::read` meets its contract: one step for each part of the form. Assumes nothing.
use Prim.Native.Nat.{ℕ, ◌*◌, ◌/◌, ◌≤◌, max}
use native.Mathlib.Omega.{arith}
use mathlib.Core.Path.{◌≡◌}
use mathlib.Core.List.{[], ◌∷◌}
use lib.ListN.{drop}
use Rattle.texts.specs.Limits.{max_number}
use Rattle.texts.specs.Parts.{scan}
use Rattle.texts.specs.Inner.{read_by}
use Rattle.texts.proofs.Laws.Steps.{value_within, Left, begun, word_on, number_on, end_on, word_stops, number_stops, end_stops}
use Rattle.names.specs.Names.{name_form}
use Rattle.names.specs.Inner.{name_of}
use Rattle.names.proofs.block.read.Goals as goal
use Rattle.names.proofs.block.read.Goals.{In_ok-at-2, In_ok-id}

least_is : (n : ℕ) {m : ℕ} → m ≡ max (n * 1000) 1 → m ≡ max 1 (n * 1000)
least_is n e = omega arith

-- the parts up to the slash behind the first number
with_first : (c : In_ok-at-2) → let t = c.args.text.now in Left t (scan name_form t [] c.args.at) (drop 3 name_form) (c.in_ok-first.first.value ∷ []) c.in_ok-at-2.at
with_first c =
    word_on (number_on (word_on (begun c.args.text.now name_form c.args.at) c.word.ensures c.in_ok-at.was) c.read_decimal.ensures c.in_ok-first.was) c.word-2.ensures c.in_ok-at-2.was

-- the parts up to the id
with_id : (c : In_ok-id) → let t = c.args.text.now in
    Left t (scan name_form t [] c.args.at) (drop 6 name_form) (c.in_ok-id.id.value ∷ c.in_ok-second.second.value ∷ c.in_ok-first.first.value ∷ []) c.in_ok-id.id.at
with_id c =
    number_on (word_on (number_on (word_on (number_on (word_on (begun c.args.text.now name_form c.args.at) c.word.ensures c.in_ok-at.was) c.read_decimal.ensures c.in_ok-first.was) c.word-2.ensures c.in_ok-at-2.was) (rw c.upper-top.ensures at c.read_decimal-2.ensures) c.in_ok-second.was) c.word-3.ensures c.in_ok-at-3.was) (rw (least_is c.in_ok-second.second.value c.max-least.ensures, c.upper.ensures) at c.read_decimal-3.ensures) c.in_ok-id.was

pub overflow_mul-first : goal.overflow_mul-first
overflow_mul-first c =
    let w : c.in_ok-first.first.value ≤ max_number / 1000 / 1000 = value_within 0 (max_number / 1000 / 1000) _ c.args.text.now _ _ c.read_decimal.ensures c.in_ok-first.was in
    omega arith

pub overflow_mul-second : goal.overflow_mul-second
overflow_mul-second c =
    let u = c.upper-top in
    let w : c.in_ok-second.second.value ≤ u.result = value_within _ u.result _ c.args.text.now _ _ c.read_decimal-2.ensures c.in_ok-second.was in
    omega (arith, u.ensures)

pub returns-in_err-at : goal.returns-in_err-at
returns-in_err-at c =
    word_stops name_of (begun c.args.text.now name_form c.args.at) c.word.ensures c.in_err-at.was c.from_residual.ensures.1

pub returns-in_err-first : goal.returns-in_err-first
returns-in_err-first c =
    number_stops name_of (word_on (begun c.args.text.now name_form c.args.at) c.word.ensures c.in_ok-at.was) c.read_decimal.ensures c.in_err-first.was c.from_residual-in_err-first.ensures.1

pub returns-in_err-at-2 : goal.returns-in_err-at-2
returns-in_err-at-2 c =
    word_stops name_of (number_on (word_on (begun c.args.text.now name_form c.args.at) c.word.ensures c.in_ok-at.was) c.read_decimal.ensures c.in_ok-first.was) c.word-2.ensures c.in_err-at-2.was c.from_residual-in_err-at-2.ensures.1

pub returns-in_err-second : goal.returns-in_err-second
returns-in_err-second c =
    number_stops name_of (with_first (goal.at.returns-in_err-second c).In_ok-at-2) (rw c.upper-top.ensures at c.read_decimal-2.ensures) c.in_err-second.was c.from_residual-in_err-second.ensures.1

pub returns-in_err-at-3 : goal.returns-in_err-at-3
returns-in_err-at-3 c =
    word_stops name_of (number_on (with_first (goal.at.returns-in_err-at-3 c).In_ok-at-2) (rw c.upper-top.ensures at c.read_decimal-2.ensures) c.in_ok-second.was) c.word-3.ensures c.in_err-at-3.was c.from_residual-in_err-at-3.ensures.1

pub returns-in_err-id : goal.returns-in_err-id
returns-in_err-id c =
    number_stops name_of (word_on (number_on (with_first (goal.at.returns-in_err-id c).In_ok-at-2) (rw c.upper-top.ensures at c.read_decimal-2.ensures) c.in_ok-second.was) c.word-3.ensures c.in_ok-at-3.was) (rw (least_is c.in_ok-second.second.value c.max-least.ensures, c.upper.ensures) at c.read_decimal-3.ensures) c.in_err-id.was c.from_residual-in_err-id.ensures.1

pub returns-in_err-at-4 : goal.returns-in_err-at-4
returns-in_err-at-4 c =
    word_stops name_of (with_id (goal.at.returns-in_err-at-4 c).In_ok-id) c.word-4.ensures c.in_err-at-4.was c.from_residual-in_err-at-4.ensures.1

pub returns-in_err-block : goal.returns-in_err-block
returns-in_err-block c =
    number_stops name_of (word_on (with_id (goal.at.returns-in_err-block c).In_ok-id) c.word-4.ensures c.in_ok-at-4.was) c.read_decimal-4.ensures c.in_err-block.was c.from_residual-in_err-block.ensures.1

pub returns-in_err-at-5 : goal.returns-in_err-at-5
returns-in_err-at-5 c =
    word_stops name_of (number_on (word_on (with_id (goal.at.returns-in_err-at-5 c).In_ok-id) c.word-4.ensures c.in_ok-at-4.was) c.read_decimal-4.ensures c.in_ok-block.was) c.word-5.ensures c.in_err-at-5.was c.from_residual-in_err-at-5.ensures.1

pub returns-in_err-size : goal.returns-in_err-size
returns-in_err-size c =
    number_stops name_of (word_on (number_on (word_on (with_id (goal.at.returns-in_err-size c).In_ok-id) c.word-4.ensures c.in_ok-at-4.was) c.read_decimal-4.ensures c.in_ok-block.was) c.word-5.ensures c.in_ok-at-5.was) c.read_decimal-5.ensures c.in_err-size.was c.from_residual-in_err-size.ensures.1

pub returns-in_err-end : goal.returns-in_err-end
returns-in_err-end c =
    end_stops name_of (number_on (word_on (number_on (word_on (with_id (goal.at.returns-in_err-end c).In_ok-id) c.word-4.ensures c.in_ok-at-4.was) c.read_decimal-4.ensures c.in_ok-block.was) c.word-5.ensures c.in_ok-at-5.was) c.read_decimal-5.ensures c.in_ok-size.was) c.end.ensures c.in_err-end.was c.from_residual-in_err-end.ensures.1

pub returns : goal.returns
unfolding read_by
returns c =
    end_on name_of (number_on (word_on (number_on (word_on (with_id (goal.at.returns c).In_ok-id) c.word-4.ensures c.in_ok-at-4.was) c.read_decimal-4.ensures c.in_ok-block.was) c.word-5.ensures c.in_ok-at-5.was) c.read_decimal-5.ensures c.in_ok-size.was) c.end.ensures c.in_ok-end.was
