-- `plans::reach::same_top_to` meets its contract: under one record the locations go on up to the end of the block. Assumes nothing.
use Prim.Native.Nat.{◌-◌, ◌+◌}
use native.Mathlib.Omega.{arith}
use mathlib.Core.Path.{sym, ◌∙◌}
use mathlib.Core.Bool.{false≢true}
use borrow.Author.Tests.{eq-eqb, eqb-true}
use Rattle.resolve.specs.Resolved.{OnTop}
use Rattle.plans.proofs.Laws.Tops.{Giving, top_giving, top_within, top_unbroken, hole_on, byte_on, block_stops}
use Rattle.plans.proofs.Laws.Shifts.{shifts_some}
use Rattle.plans.proofs.reach.same_top_to.Goals as goal
use Rattle.plans.proofs.reach.same_top_to.Goals.{After-wide, Start}

-- the record on top of the first position
on_top : (c : Start) → OnTop c.args.list.now c.args.top c.args.p (c.args.p + 1)
on_top c = top_within _ _ _ _ c.requires.on_top _ _ (omega arith) (omega (arith, c.requires.p_lt_e))

-- the record that gives it its byte
giving : (c : After-wide) → let a = c.args in Giving a.list.now a.top a.p (c.wide.result - 1)
giving c =
    top_giving _ _ _ _ c.requires.all (top_within _ _ _ _ c.requires.on_top _ _ (omega arith) (omega (arith, c.requires.p_lt_e))) (λ e. false≢true (sym c.if-is_none.false ∙ c.is_none.ensures ∙ eq-eqb _ 0 (c.id_on.ensures ∙ e))) c.wide.ensures

pub id_on-requires : goal.id_on-requires
id_on-requires c = λ i e. (c.requires.on_top.covering i e).0

pub returns-then-is_none : goal.returns-then-is_none
returns-then-is_none c =
    let z = eqb-true _ 0 (sym c.is_none.ensures ∙ c.if-is_none.true) in
    record { unbroken = hole_on _ _ _ _ (on_top (goal.at.returns-then-is_none c).Start) c.requires.all (sym c.id_on.ensures ∙ z) _ _ (top_unbroken _ _ _ _ c.requires.on_top c.requires.p_lt_e); stops = (λ h q e l. absurd (omega arith)) }

pub overflow_sub-wide : goal.overflow_sub-wide
overflow_sub-wide c = omega (arith, (giving c).is, c.wide.ensures)

pub off_in-off-requires : goal.off_in-off-requires
off_in-off-requires c =
    let g = giving c in
    record { record_size_in_bounds = g.inside; passes = g.passes; i_bound = (g.from, g.to) }

pub returns : goal.returns
returns c =
    let g = giving (goal.at.returns c).After-wide in
    let l = c.in_block.ensures in
    record { unbroken = byte_on _ _ _ _ (on_top (goal.at.returns c).Start) _ g.is g.some _ _ _ _ (top_unbroken _ _ _ _ c.requires.on_top c.requires.p_lt_e) c.off_in-off.ensures l.0 l.1 l.2; stops = (λ h. block_stops _ _ _ _ c.requires.on_top _ (shifts_some _ _ c.args.block.shifts) _ g.is g.some c.off_in-off.ensures _ l.0 (omega (arith, h)) (l.3 (omega (arith, h)))) }
