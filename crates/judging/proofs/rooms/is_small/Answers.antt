-- `judging::rooms::is_small` meets its contract. Assumes nothing.
use mathlib.Core.Bool.{false≢true}
use Rattle.judging.proofs.rooms.is_small.Goals as goal

pub returns : goal.returns
returns c = λ h. absurd (false≢true h)
