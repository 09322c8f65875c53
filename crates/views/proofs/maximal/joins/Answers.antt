-- `views::maximal::joins` meets its contract: sources with different ids don't join. Assumes nothing.
use mathlib.Core.Path.{sym, ◌∙◌}
use Rattle.views.proofs.Laws.Tops.{ids_part}
use Rattle.views.proofs.maximal.joins.Goals as goal

pub id_on-requires : goal.id_on-requires
id_on-requires c = λ i e. (c.requires.on_top_2.covering i e).0

pub returns-then-id_on-id : goal.returns-then-id_on-id
returns-then-id_on-id c =
    sym (ids_part _ _ _ _ _ _ c.requires.on_top c.requires.on_top_2 (λ e. c.if-id_on-id.true (c.id_on.ensures ∙ e ∙ sym c.requires.p_lt_e.1)))
