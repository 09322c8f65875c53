-- `plans::bytes::put_if` meets its contract: the piece, or nothing. Assumes nothing.
use Rattle.plans.proofs.bytes.put_if.Goals as goal

pub put_piece-requires : goal.put_piece-requires
put_piece-requires c =
    record { all = c.requires.all; on_top = c.requires.on_top; piece_size_in_bounds = c.requires.piece_size_in_bounds c.if-write.true }

pub returns-then-write : goal.returns-then-write
returns-then-write c = rw c.if-write.true c.put_piece.ensures
