-- `stepping::joins::goes_on` meets its contract: the ids tell, or the two locations do. Assumes nothing.
use mathlib.Core.Path.{sym, ◌∙◌}
use borrow.Author.Tests.{eq-eqb, ne_eqb}
use Rattle.plans.proofs.Laws.Tops.{tops_part, tops_join}
use Rattle.stepping.proofs.joins.goes_on.Goals as goal

pub id_on-requires : goal.id_on-requires
id_on-requires c = λ i e. (c.requires.on_top_2.covering i e).0

pub returns-then-id-eq0 : goal.returns-then-id-eq0
returns-then-id-eq0 c =
    eq-eqb _ 0 c.if-id-eq0.true
    ∙ tops_join _ _ _ _ _ _ _ c.requires.on_top c.requires.on_top_2 c.requires.all (sym c.requires.p_lt_e.2 ∙ c.if-id-eq0.true) (sym c.id_on.ensures ∙ c.if-id_on-id.true ∙ c.if-id-eq0.true)

pub returns-else-id_on-id : goal.returns-else-id_on-id
returns-else-id_on-id c =
    ne_eqb _ _ c.if-id_on-id.false
    ∙ tops_part _ _ _ _ _ _ _ c.requires.on_top c.requires.on_top_2 (λ e. c.if-id_on-id.false (c.id_on.ensures ∙ e ∙ sym c.requires.p_lt_e.2))
