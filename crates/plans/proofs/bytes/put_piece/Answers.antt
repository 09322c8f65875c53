-- `plans::bytes::put_piece` meets its contract: the length, and before it what the record on top tells. Assumes nothing.
use Rattle.std.proofs.Common.{rules}
use Prim.Native.Nat.{◌-◌, ◌/◌, ◌%◌, ◌^◌}
use native.Mathlib.Omega.{arith}
use mathlib.Core.Path.{sym, ap, ◌∙◌}
use Rattle.codec.specs.Splice.{splice}
use Rattle.plans.specs.Inner.{mark_of}
use Rattle.plans.specs.Piece.{piece_of, encode_piece}
use Rattle.plans.specs.Location.{location}
use Rattle.slices.specs.Cover.{given}
use Rattle.slices.specs.Record.{record_at}
use Rattle.plans.specs.declared.Location.{Location}
use Rattle.plans.specs.declared.Location.TheVariants.{Hole}
use Rattle.plans.proofs.Laws.Pieces.{piece_put}
use Rattle.plans.proofs.Laws.Tops.{Giving, top_giving, top_hole, top_location, giving_mark}
use Rattle.plans.proofs.bytes.put_piece.Goals as goal
use Rattle.plans.proofs.bytes.put_piece.Goals.{After-wide}

-- the record that gives the position its byte
giving : (c : After-wide) → let a = c.args in Giving a.list.now a.top a.p (c.wide.result - 1)
giving c =
    top_giving _ _ _ _ c.requires.all c.requires.on_top (λ e. c.if-id_on-eq0.false (c.id_on.ensures ∙ e)) c.wide.ensures

pub id_on-requires : goal.id_on-requires
id_on-requires c = λ i e. (c.requires.on_top.covering i e).0

pub returns-then-id_on-eq0 : goal.returns-then-id_on-eq0
unfolding mark_of
returns-then-id_on-eq0 c =
    let h = top_hole _ _ _ _ c.requires.on_top c.requires.all (sym c.id_on.ensures ∙ c.if-id_on-eq0.true) in
    piece_put c.args.out.now _ _ _ c.args.to _ _ Hole c.requires.piece_size_in_bounds c.write_be32.ensures c.put_front.ensures c.put_nothing.ensures
    ∙ ap (λ (a : Location). splice c.args.out.now c.args.to (encode_piece (piece_of (c.args.front / 2 ^ 32) (c.args.front % 2 ^ 32) c.args.len a))) (sym h)

pub overflow_sub-wide : goal.overflow_sub-wide
overflow_sub-wide c = omega (arith, (giving c).is, c.wide.ensures)

pub put_object-requires : goal.put_object-requires
put_object-requires c =
    let g = giving (goal.at.put_object-requires c).After-wide in
    record { record_size_in_bounds = (g.inside, search rules); passes = (g.passes, g.some); i_bound = (g.from, g.to) }

pub returns : goal.returns
returns c =
    let h = top_location _ _ _ _ _ c.requires.on_top (giving (goal.at.returns c).After-wide) in
    let r = record_at c.args.list.now (c.wide.result - 1) in
    let a = location c.args.block.bytes (given r c.args.p) in
    piece_put c.args.out.now _ _ _ c.args.to _ _ a c.requires.piece_size_in_bounds c.write_be32.ensures
    (rw (← giving_mark c.args.block.bytes _ _ _ _ (giving (goal.at.returns c).After-wide)) c.put_front-2.ensures) c.put_object.ensures
    ∙ ap (λ (b : Location). splice c.args.out.now c.args.to (encode_piece (piece_of (c.args.front / 2 ^ 32) (c.args.front % 2 ^ 32) c.args.len b))) (sym h)
