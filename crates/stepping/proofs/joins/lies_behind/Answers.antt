-- `stepping::joins::lies_behind` meets its contract: the two locations tell. Assumes nothing.
use mathlib.Core.Path.{◌∙◌}
use Rattle.plans.proofs.Laws.Locations.{cover_inside, location_is}
use Rattle.stepping.proofs.joins.lies_behind.Goals as goal

pub location_of-first-requires : goal.location_of-first-requires
location_of-first-requires c =
    record { inside = rw c.source_of.ensures (cover_inside _ c.requires.all _); block_nonzero = c.requires.p_lt_e.1 }

pub location_of-s-requires : goal.location_of-s-requires
location_of-s-requires c =
    record { inside = rw c.source_of-2.ensures (cover_inside _ c.requires.all _); block_nonzero = c.requires.p_lt_e.1 }

pub returns : goal.returns
returns c =
    let x = location_is _ _ _ c.source_of.ensures c.location_of-first.ensures in
    let y = location_is _ _ _ c.source_of-2.ensures c.location_of-s.ensures in
    c.location_goes_on.ensures ∙ rw (x, y)
