-- `coverage::windows::narrow` meets its contract. Assumes nothing.
use mathlib.Core.Path.{refl}
use Rattle.coverage.proofs.Laws.Kept.{narrowed_twice}
use Rattle.coverage.proofs.windows.narrow.Goals as goal

pub returns : goal.returns
returns c =
    let edge = c.cut-edge.ensures in
    narrowed_twice _ _ _ _ _ _ _ _ _ edge.0 edge.1 refl c.keep-count.auto.keys c.if-count-keys.false c.keep-count.ensures c.keep-left.ensures
