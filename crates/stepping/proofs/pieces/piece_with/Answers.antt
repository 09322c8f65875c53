-- `stepping::pieces::piece_with` meets its contract: the record on top gives the first location. Assumes nothing.
use mathlib.Core.Path.{ap, ◌∙◌}
use Rattle.plans.specs.Piece.{piece_of}
use Rattle.plans.proofs.Laws.Locations.{cover_inside, location_is}
use Rattle.plans.proofs.Laws.Shifts.{shifts_some}
use Rattle.stepping.proofs.pieces.piece_with.Goals as goal

pub location_of-first-requires : goal.location_of-first-requires
location_of-first-requires c =
    record { inside = rw c.source_of.ensures (cover_inside _ c.requires.accepts.pass _); block_nonzero = shifts_some _ _ c.args.block.shifts }

pub returns : goal.returns
returns c =
    c.piece_of.ensures ∙ ap (piece_of _ _ _) (location_is _ _ _ c.source_of.ensures c.location_of-first.ensures)
