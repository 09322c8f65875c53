-- `stepping::pieces::scanned_at` meets its contract: a piece that it tells ends where the scan says. Assumes nothing.
use native.Mathlib.Omega.{arith}
use mathlib.Core.Path.{refl}
use Rattle.stepping.proofs.Laws.Ends.{top_here, piece_from}
use Rattle.stepping.proofs.pieces.scanned_at.Goals as goal

pub piece_with-requires : goal.piece_with-requires
piece_with-requires c =
    let l = rw c.in_ok-e.was at c.end_of.ensures in
    record { accepts = c.requires.accepts; on_top = (top_here _ _ _ _ c.scan-s.ensures, omega (arith, l.some)) }

pub returns : goal.returns
returns c =
    piece_from _ _ _ _ _ _ _ refl (rw c.in_ok-e.was at c.end_of.ensures) c.piece_with.ensures
