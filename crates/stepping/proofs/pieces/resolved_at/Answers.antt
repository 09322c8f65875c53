-- `stepping::pieces::resolved_at` meets its contract: the resolved list tells the end. Assumes nothing.
use mathlib.Core.Path.{refl}
use Rattle.stepping.proofs.Laws.Ends.{piece_from}
use Rattle.stepping.proofs.pieces.resolved_at.Goals as goal

pub returns : goal.returns
returns c = piece_from _ _ _ _ _ _ _ refl c.end_resolved-r.ensures.leads c.piece_with.ensures
