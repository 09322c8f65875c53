-- `names::write_object_name` meets its contract: numbers that are not allowed are refused, then too short a buffer; else the name is put into it.
-- Assumes nothing.
use native.Mathlib.Omega.{arith}
use mathlib.Core.Path.{sym, ◌∙◌}
use Rattle.names.specs.Names.{object_allowed, object_name}
use Rattle.names.specs.Inner.{Widths}
use Rattle.names.proofs.Laws.Length.{name_length_lem}
use Rattle.texts.proofs.Laws.Calls.{answers_not, answers_short, answers_put}
use Rattle.names.proofs.write_object_name.Goals as goal

pub returns-then-not-allowed : goal.returns-then-not-allowed
returns-then-not-allowed c =
    let a = c.args in
    answers_not (object_allowed a.id a.block a.size) (object_name a.id a.block a.size) a.out.now _ (sym c.allowed.ensures ∙ c.if-not-allowed.true) c.from.ensures

pub returns-then-out-n : goal.returns-then-out-n
returns-then-out-n c =
    let a = c.args in
    answers_short (object_allowed a.id a.block a.size) (object_name a.id a.block a.size) a.out.now _ (sym c.allowed.ensures ∙ c.if-not-allowed.false) (omega (arith, name_length_lem a.id a.block a.size (record { of_id = c.digits-i.ensures.0; of_block = c.digits-b.ensures.0; of_size = c.digits-s.ensures.0 }), c.length-n.ensures.0, c.if-out-n.true)) c.from-then-out-n.ensures

pub put-requires : goal.put-requires
put-requires c =
    let a = c.args in
    let w : Widths a.id a.block a.size _ _ _ = record { of_id = c.digits-i.ensures.0; of_block = c.digits-b.ensures.0; of_size = c.digits-s.ensures.0 } in
    (w, omega (arith, name_length_lem a.id a.block a.size w, c.length-n.ensures.0, c.if-out-n.false))

pub returns : goal.returns
returns c =
    let a = c.args in
    answers_put (object_allowed a.id a.block a.size) (object_name a.id a.block a.size) a.out.now _ _ _ (sym c.allowed.ensures ∙ c.if-not-allowed.false) (omega (arith, name_length_lem a.id a.block a.size (record { of_id = c.digits-i.ensures.0; of_block = c.digits-b.ensures.0; of_size = c.digits-s.ensures.0 }), c.length-n.ensures.0, c.if-out-n.false)) c.put.ensures
