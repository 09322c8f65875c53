-- `stepping::pieces::piece_of` meets its contract. Assumes nothing.
use Rattle.plans.specs.Piece.{piece_of}
use Rattle.stepping.proofs.pieces.piece_of.Goals as goal

pub returns-in-Hole : goal.returns-in-Hole
unfolding piece_of
returns-in-Hole c = rw c.in-Hole.is

pub returns-in-In : goal.returns-in-In
unfolding piece_of
returns-in-In c = rw c.in-In.is
