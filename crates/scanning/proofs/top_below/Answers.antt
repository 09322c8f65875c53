-- `scanning::top_below` meets its contract. Assumes nothing.
use Rattle.scanning.proofs.Laws.Last.{last_all, on_top_at}
use Rattle.scanning.proofs.top_below.Goals as goal

pub returns : goal.returns
returns c =
    on_top_at _ _ _ (last_all _ _ _ _ _ c.last_before.ensures c.requires.before_bound.0 c.requires.clear)
