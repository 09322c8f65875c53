-- `keys::read_tkv_key` meets its contract: a key of the right shape is read at its fixed places. Assumes nothing.
use mathlib.Core.Path.{◌≡◌, sym, ap, ◌∙◌}
use mathlib.Core.Bool.{true, false}
use native.Mathlib.Omega.{arith}
use Rattle.keys.specs.Keys.{tkv_shape, chunk_answer}
use Rattle.std.specs.Prelude.{Ok, Err}
use Rattle.keys.proofs.Laws.Tkv.{shaped, read_shaped, read_unshaped}
use Rattle.outcomes.specs.Answers.{answer_of}
use Rattle.keys.proofs.read_tkv_key.Goals as goal
use Rattle.keys.proofs.read_tkv_key.Goals.{Else-not-tkv_shape}

-- the key has the right shape
right : (c : Else-not-tkv_shape) → tkv_shape c.args.key.now ≡ true
right c = sym c.tkv_shape.ensures ∙ c.if-not-tkv_shape.false

pub returns-then-not-tkv_shape : goal.returns-then-not-tkv_shape
unfolding answer_of
returns-then-not-tkv_shape c =
    let key = c.args.key.now in
    let e : tkv_shape key ≡ false = sym c.tkv_shape.ensures ∙ c.if-not-tkv_shape.true in
    ap Err c.from.ensures ∙ sym (ap chunk_answer (read_unshaped key e))

pub read_le64-requires : goal.read_le64-requires
read_le64-requires c = let s = shaped c.args.key.now (right c) in omega arith

pub read_be32-requires : goal.read_be32-requires
read_be32-requires c =
    let s = shaped c.args.key.now (right (goal.at.read_be32-requires c).Else-not-tkv_shape) in omega arith

pub returns : goal.returns
unfolding answer_of
returns c =
    (λ i. Ok (record { inode = c.read_le64.ensures i; index = c.read_be32.ensures i })) ∙ sym (ap chunk_answer (read_shaped c.args.key.now (right (goal.at.returns c).Else-not-tkv_shape)))
