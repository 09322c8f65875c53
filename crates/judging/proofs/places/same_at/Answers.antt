-- `judging::places::same_at` meets its contract. Assumes nothing.
use mathlib.Core.Path.{sym, ap, ◌∙◌}
use Rattle.plans.proofs.Laws.Locations.{cover_inside, location_is}
use Rattle.judging.specs.Judge.{same_location}
use Rattle.judging.proofs.Laws.Places.{hole_same}
use Rattle.judging.proofs.places.same_at.Goals as goal

pub location_of-requires : goal.location_of-requires
location_of-requires c =
    record { inside = rw c.source_of.ensures (cover_inside _ c.requires.all _); block_nonzero = c.requires.block_nonzero }

pub returns-in-Hole : goal.returns-in-Hole
returns-in-Hole c =
    let x = location_is _ _ _ c.source_of.ensures c.location_of.ensures in
    hole_same _ _ ∙ ap (same_location _) (sym c.in-Hole.is ∙ x)

pub returns-in-In : goal.returns-in-In
returns-in-In c =
    let x = location_is _ _ _ c.source_of.ensures c.location_of.ensures in
    c.in_object.ensures ∙ ap (same_location _) (sym c.in-In.is ∙ x)
