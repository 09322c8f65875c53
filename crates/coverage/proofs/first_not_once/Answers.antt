-- `coverage::first_not_once` meets its contract. Assumes nothing.
use mathlib.Core.Path.{refl}
use native.Mathlib.Omega.{arith}
use Rattle.coverage.proofs.Laws.Swept.{swept_none, swept_crowded, swept_all, swept_stop, swept_more, keys_lie}
use Rattle.coverage.proofs.Laws.Windows.{crowd_held}
use Rattle.coverage.proofs.first_not_once.Goals as goal

pub loop-low-init : goal.loop-low-init
loop-low-init c = (omega arith, refl, refl, refl, swept_none _)

pub returns-then-high-low : goal.returns-then-high-low
returns-then-high-low c =
    let found = c.collect-window.ensures in
    let crowd = found.crowded (omega (arith, c.if-high-low.true, found.behind)) in
    swept_crowded _ _ _ _ c.loop-low.invariant.4 c.loop-low-test.true (crowd_held _ _ _ c.requires.all crowd)

pub chain-cur-requires : goal.chain-cur-requires
chain-cur-requires c =
    let inv = c.loop-low.invariant in
    let found = c.collect-window.ensures in (
      found.room,
      omega (arith, found.room, c.collect-window.auto.keys, c.sort_whole.auto.order, c.requires.keys_nonzero.2, inv.1, inv.2),
      c.sort_whole.ensures,
      keys_lie _ _ c.requires.all c.requires.n_bound _ _ _ _ (found.collected c.if-high-low.false),
    )

pub returns-then-cur-high : goal.returns-then-cur-high
returns-then-cur-high c =
    let found = c.collect-window.ensures in
    swept_stop _ _ c.requires.all c.requires.n_bound _ _ _ _ (found.collected c.if-high-low.false) _ _ c.loop-low.invariant.4 found.behind c.chain-cur.ensures
    (omega arith) found.inside

pub loop-low-preserved : goal.loop-low-preserved
loop-low-preserved c =
    let inv = c.loop-low.invariant in
    let found = c.collect-window.ensures in (
      found.inside,
      omega (arith, c.collect-window.auto.keys, inv.1),
      omega (arith, c.sort_whole.auto.order, inv.2),
      omega (arith, c.sort_whole.auto.spare, inv.3),
      swept_more _ _ c.requires.all c.requires.n_bound _ _ _ _ (found.collected c.if-high-low.false) _ _ inv.4 found.behind c.chain-cur.ensures
          (omega arith),
    )

pub returns : goal.returns
returns c = swept_all _ _ _ _ c.loop-low.invariant.4 c.loop-low-test.false
