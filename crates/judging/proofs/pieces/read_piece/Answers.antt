-- `judging::pieces::read_piece` meets its contract. Assumes nothing.
use Rattle.plans.specs.Piece.{decode_piece}
use Rattle.judging.proofs.pieces.read_piece.Goals as goal

pub returns : goal.returns
unfolding decode_piece
returns c =
    let mark = c.read_be16-mark.ensures in
    let index = c.read_be32-index.ensures in
    let place = c.read_be32-place.ensures in
    let id = c.read_be64-id.ensures in
    let block = c.read_be32-block.ensures in
    let length = c.read_be32-length.ensures in
    let at = c.read_be32-in_block.ensures in
    let len = c.read_be32-len.ensures in
    λ i. record { mark = mark i; index = index i; place = place i; id = id i; block = block i; length = length i; at = at i; len = len i }
