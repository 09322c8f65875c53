-- `slices::tree::search_with` meets its contract. Assumes nothing.
use mathlib.Core.Path.{refl, ap, ◌∙◌}
use mathlib.Core.Bool.{not}
use Rattle.slices.specs.Record.{count}
use Rattle.slices.proofs.Laws.Sizes.{sizes_start, sizes_next, sizes_end, other_here, no_other}
use Rattle.slices.proofs.tree.search_with.Goals as goal

pub loop-i-init : goal.loop-i-init
loop-i-init c = (refl, c.requires, sizes_start _)

pub enter-requires-clause-i_bound : goal.enter-requires-clause-i_bound
unfolding count
enter-requires-clause-i_bound c = c.loop-i-test.true

pub loop-i-preserved : goal.loop-i-preserved
unfolding count
loop-i-preserved c =
    let e = c.enter.ensures in (
      c.enter.auto.table ∙ c.loop-i.invariant.0,
      e.tree c.if-not-enter.false,
      c.loop-i.invariant.2 ∙ sizes_next _ _ c.loop-i-test.true (e.says ∙ ap not c.if-not-enter.false),
    )

pub returns-then-not-enter : goal.returns-then-not-enter
unfolding count
returns-then-not-enter c =
    other_here _ _ c.loop-i-test.true c.loop-i.invariant.2 (c.enter.ensures.says ∙ ap not c.if-not-enter.true)

pub returns : goal.returns
unfolding count
returns c = no_other _ (c.loop-i.invariant.2 ∙ sizes_end _ _ c.loop-i-test.false)
