-- `stepping::ends::end_of` meets its contract: the piece ends with a block, at the end, or where the next record parts.
-- Assumes nothing.
use mathlib.Core.Path.{refl, sym, ◌∙◌}
use mathlib.Core.Bool.{false}
use Rattle.slices.specs.Record.{records, count}
use Rattle.runs.specs.Inner.{Unbroken}
use Rattle.runs.proofs.Laws.Walk.{leads_stops, leads_parts, leads_end}
use Rattle.plans.specs.Location.{location_at, next_location, onward}
use Rattle.plans.proofs.Laws.Locations.{onward-zero, next_location_is}
use Rattle.plans.proofs.Laws.Shifts.{shifts_some}
use Rattle.plans.proofs.Laws.Tops.{tops_part}
use Rattle.stepping.proofs.Laws.Ends.{top_here, below_there, scan_unbroken}
use Rattle.stepping.proofs.ends.end_of.Goals as goal
use Rattle.stepping.proofs.ends.end_of.Goals.{After-same_top_to-e}

-- up to e the locations go on
unbroken : (c : After-same_top_to-e) → let a = c.args in Unbroken next_location (location_at a.block.bytes (records a.list.now)) a.p a.end c.same_top_to-e.result
unbroken c = scan_unbroken _ _ _ _ c.requires.scans _ _ _ c.same_top_to-e.ensures.unbroken

pub returns-then-e-stop : goal.returns-then-e-stop
returns-then-e-stop c =
    let stop = c.if-e-stop.true in
    let u = unbroken (goal.at.returns-then-e-stop c).After-same_top_to-e in
    leads_stops next_location onward onward-zero next_location_is _ _ _ _ u (λ q h l. c.same_top_to-e.ensures.stops stop q h stop)

pub returns-then-end-e : goal.returns-then-end-e
returns-then-end-e c =
    let u = unbroken (goal.at.returns-then-end-e c).After-same_top_to-e in
    leads_end next_location onward onward-zero next_location_is _ _ _ _ u _ refl c.if-end-e.true

pub id_on-id-requires : goal.id_on-id-requires
id_on-id-requires c = λ i e. (c.requires.scans.here.covering i e).0

pub top_below-next-requires : goal.top_below-next-requires
top_below-next-requires c =
    let t = below_there _ _ _ _ c.requires.scans _ c.same_top_to-e.ensures.unbroken.inside c.if-e-stop.false c.if-end-e.false in
    record { all = c.requires.accepts.pass; before_bound = (t.0, c.requires.accepts.few); clear = t.1 }

pub id_on-requires : goal.id_on-requires
id_on-requires c = λ i e. (c.top_below-next.ensures.covering i e).0

pub returns-then-id_on-id : goal.returns-then-id_on-id
returns-then-id_on-id c =
    let u = unbroken (goal.at.returns-then-id_on-id c).After-same_top_to-e in
    let parts = tops_part _ _ _ _ _ _ _ (top_here _ _ _ _ c.requires.scans) c.top_below-next.ensures (λ e. c.if-id_on-id.true (c.id_on.ensures ∙ e ∙ sym c.id_on-id.ensures)) in
    leads_parts next_location onward onward-zero next_location_is _ _ _ _ u _ _ false refl refl parts refl

pub lies_behind-requires : goal.lies_behind-requires
lies_behind-requires c =
    record { all = c.requires.accepts.pass; p_lt_e = (c.same_top_to-e.ensures.unbroken.some, shifts_some _ _ c.args.block.shifts); on_top = top_here _ _ _ _ c.requires.scans; on_top_2 = c.top_below-next.ensures }

pub sized-found-requires-clause-accepts : goal.sized-found-requires-clause-accepts
unfolding count
sized-found-requires-clause-accepts c = (c.requires.accepts, c.if-list-le32.true)

pub returns-then-list-le32 : goal.returns-then-list-le32
returns-then-list-le32 c = c.sized-found.ensures.leads

pub returns-then-lies_behind : goal.returns-then-lies_behind
returns-then-lies_behind c = tt

pub returns : goal.returns
returns c =
    let u = unbroken (goal.at.returns c).After-same_top_to-e in
    leads_parts next_location onward onward-zero next_location_is _ _ _ _ u _ _ _ refl refl c.lies_behind.ensures c.if-lies_behind.false
