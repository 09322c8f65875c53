-- `judging::leading::lead_list` meets its contract. Assumes nothing.
use Rattle.judging.proofs.Laws.Leading.{leads_start}
use Rattle.judging.proofs.leading.lead_list.Goals as goal

pub resolve-segments-requires : goal.resolve-segments-requires
resolve-segments-requires c = record { all = c.requires.resolvable.0.pass; few = c.requires.resolvable.1 }

pub returns-clause-leads : goal.returns-clause-leads
returns-clause-leads c =
    leads_start _ _ _ _ _ _ _ _ _ c.requires.number_in_bounds.0 c.requires.number_in_bounds.1 c.requires.number_in_bounds.2
