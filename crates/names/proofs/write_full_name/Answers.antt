-- `names::write_full_name` meets its contract: a volume name or numbers that are not allowed are refused, then too short a buffer; else the name
-- is put into it. Assumes nothing.
use native.Mathlib.Omega.{arith}
use mathlib.Core.Path.{◌≡◌, sym, ◌∙◌}
use mathlib.Core.Bool.{true, false}
use Rattle.names.specs.Volume.{volume_allowed}
use Rattle.names.specs.Names.{object_allowed, full_allowed, full_name}
use Rattle.names.specs.Inner.{Widths}
use Rattle.names.proofs.Laws.Length.{name_length_lem, full-length}
use Rattle.texts.proofs.Laws.Calls.{answers_not, answers_short, answers_put}
use Rattle.names.proofs.write_full_name.Goals as goal

pub returns-then-not-allowed : goal.returns-then-not-allowed
unfolding full_allowed
returns-then-not-allowed c =
    let a = c.args in
    let v : volume_allowed a.volume.now ≡ false = sym c.allowed.ensures ∙ c.if-not-allowed.true in
    answers_not (full_allowed a.volume.now a.id a.block a.size) (full_name a.volume.now a.id a.block a.size) a.out.now _ (rw v) c.from.ensures

pub returns-then-not-allowed-2 : goal.returns-then-not-allowed-2
unfolding full_allowed
returns-then-not-allowed-2 c =
    let a = c.args in
    let v : volume_allowed a.volume.now ≡ true = sym c.allowed.ensures ∙ c.if-not-allowed.false in
    let o : object_allowed a.id a.block a.size ≡ false = sym c.allowed-2.ensures ∙ c.if-not-allowed-2.true in
    answers_not (full_allowed a.volume.now a.id a.block a.size) (full_name a.volume.now a.id a.block a.size) a.out.now _ (rw (v, o)) c.from-then-not-allowed-2.ensures

pub returns-then-out-volume : goal.returns-then-out-volume
unfolding full_allowed
returns-then-out-volume c =
    let a = c.args in
    let v : volume_allowed a.volume.now ≡ true = sym c.allowed.ensures ∙ c.if-not-allowed.false in
    let o : object_allowed a.id a.block a.size ≡ true = sym c.allowed-2.ensures ∙ c.if-not-allowed-2.false in
    let w : Widths a.id a.block a.size _ _ _ = record { of_id = c.digits-i.ensures.0; of_block = c.digits-b.ensures.0; of_size = c.digits-s.ensures.0 } in
    answers_short (full_allowed a.volume.now a.id a.block a.size) (full_name a.volume.now a.id a.block a.size) a.out.now _ (rw (v, o)) (omega (arith, full-length a.id a.block a.size a.volume.now, name_length_lem a.id a.block a.size w, c.length-n.ensures.0, c.if-out-volume.true)) c.from-then-out-volume.ensures

pub put_full-requires : goal.put_full-requires
put_full-requires c =
    let a = c.args in
    let w : Widths a.id a.block a.size _ _ _ = record { of_id = c.digits-i.ensures.0; of_block = c.digits-b.ensures.0; of_size = c.digits-s.ensures.0 } in
    (w, omega (arith, full-length a.id a.block a.size a.volume.now, name_length_lem a.id a.block a.size w, c.length-n.ensures.0, c.if-out-volume.false))

pub returns : goal.returns
unfolding full_allowed
returns c =
    let a = c.args in
    let v : volume_allowed a.volume.now ≡ true = sym c.allowed.ensures ∙ c.if-not-allowed.false in
    let o : object_allowed a.id a.block a.size ≡ true = sym c.allowed-2.ensures ∙ c.if-not-allowed-2.false in
    let w : Widths a.id a.block a.size _ _ _ = record { of_id = c.digits-i.ensures.0; of_block = c.digits-b.ensures.0; of_size = c.digits-s.ensures.0 } in
    answers_put (full_allowed a.volume.now a.id a.block a.size) (full_name a.volume.now a.id a.block a.size) a.out.now _ _ _ (rw (v, o)) (omega (arith, full-length a.id a.block a.size a.volume.now, name_length_lem a.id a.block a.size w, c.length-n.ensures.0, c.if-out-volume.false)) c.put_full.ensures
