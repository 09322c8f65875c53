-- `plans::reach::joins` meets its contract: the ids tell, or the two locations do. Assumes nothing.
use mathlib.Core.Path.{sym, ◌∙◌}
use Rattle.plans.proofs.Laws.Locations.{cover_inside, location_is}
use Rattle.plans.proofs.Laws.Tops.{tops_part, tops_join}
use Rattle.plans.proofs.reach.joins.Goals as goal

pub id_on-requires : goal.id_on-requires
id_on-requires c = λ i e. (c.requires.on_top_2.covering i e).0

pub returns-then-id_on-id : goal.returns-then-id_on-id
returns-then-id_on-id c =
    tops_part _ _ _ _ _ _ _ c.requires.on_top c.requires.on_top_2 (λ e. c.if-id_on-id.true (c.id_on.ensures ∙ e ∙ sym c.requires.p_lt_e.2))

pub returns-then-id-eq0 : goal.returns-then-id-eq0
returns-then-id-eq0 c =
    tops_join _ _ _ _ _ _ _ c.requires.on_top c.requires.on_top_2 c.requires.all (sym c.requires.p_lt_e.2 ∙ c.if-id-eq0.true) (sym c.id_on.ensures ∙ c.if-id_on-id.false ∙ c.if-id-eq0.true)

pub location_of-first-requires : goal.location_of-first-requires
location_of-first-requires c =
    record { inside = rw c.source_of.ensures (cover_inside _ c.requires.all _); block_nonzero = c.requires.p_lt_e.1 }

pub location_of-s-requires : goal.location_of-s-requires
location_of-s-requires c =
    record { inside = rw c.source_of-2.ensures (cover_inside _ c.requires.all _); block_nonzero = c.requires.p_lt_e.1 }

pub returns : goal.returns
returns c =
    let x = location_is _ _ _ c.source_of.ensures c.location_of-first.ensures in
    let y = location_is _ _ _ c.source_of-2.ensures c.location_of-s.ensures in
    c.location_goes_on.ensures ∙ rw (x, y)
