-- `coverage::keys::put` meets its contract. Assumes nothing.
use native.Mathlib.Omega.{arith}
use mathlib.Core.Path.{refl}
use lib.ListN.{length-set}
use Rattle.coverage.proofs.Laws.Collected.{before_window, behind_window, collected_narrowed, put_outside, put_inside, put_crowded}
use Rattle.coverage.proofs.Laws.Windows.{window_found, window_none}
use Rattle.coverage.proofs.keys.put.Goals as goal

pub returns-then-start-low : goal.returns-then-start-low
returns-then-start-low c =
    window_found _ _ _ _ _ _ _ c.requires.i_bound.1 (omega arith) c.requires.i_bound.2
    (put_outside _ _ _ _ _ _ _ c.requires.collected c.read_be32-start.ensures (before_window _ _ _ c.if-start-low.true))

pub returns-then-high-start : goal.returns-then-high-start
returns-then-high-start c =
    window_found _ _ _ _ _ _ _ c.requires.i_bound.1 (omega arith) c.requires.i_bound.2
    (put_outside _ _ _ _ _ _ _ c.requires.collected c.read_be32-start.ensures (behind_window _ _ _ c.if-high-start.true))

pub returns-then-count-keys : goal.returns-then-count-keys
returns-then-count-keys c =
    window_found _ _ _ _ _ _ _ c.requires.i_bound.1 (omega arith) (simp length-set (omega arith))
    (put_inside _ _ _ _ _ _ _ c.requires.collected c.read_be32-start.ensures c.if-start-low.false c.if-high-start.false _ _ c.read_be32.ensures
    (omega arith) refl c.if-count-keys.true)

pub returns-then-edge-start : goal.returns-then-edge-start
returns-then-edge-start c =
    let n = c.narrow-window.ensures in
    window_found _ _ _ _ _ _ _ n.behind n.inside (omega (arith, n.kept.fewer, c.narrow-window.auto.keys))
    (put_outside _ _ _ _ _ _ _ (collected_narrowed _ _ _ _ _ _ c.requires.collected _ _ _ c.requires.i_bound.2 c.if-count-keys.false n) c.read_be32-start.ensures
    (behind_window _ _ _ c.if-edge-start.true))

pub returns-then-kept-keys : goal.returns-then-kept-keys
returns-then-kept-keys c =
    let n = c.narrow-window.ensures in
    window_found _ _ _ _ _ _ _ n.behind n.inside (simp length-set (omega arith))
    (put_inside _ _ _ _ _ _ _ (collected_narrowed _ _ _ _ _ _ c.requires.collected _ _ _ c.requires.i_bound.2 c.if-count-keys.false n) c.read_be32-start.ensures
    c.if-start-low.false c.if-edge-start.false _ _ c.read_be32.ensures (omega arith) refl c.if-kept-keys.true)

pub returns : goal.returns
returns c =
    let n = c.narrow-window.ensures in
    let same = c.narrow-window.auto.keys in
    window_none _ _ _ _ _ (omega arith)
    (put_crowded _ _ _ _ _ _ _ (collected_narrowed _ _ _ _ _ _ c.requires.collected _ _ _ c.requires.i_bound.2 c.if-count-keys.false n) c.read_be32-start.ensures
    c.if-start-low.false c.if-edge-start.false (n.narrowest (omega (arith, same, c.if-kept-keys.false))) (omega (arith, same, c.if-kept-keys.false, c.requires.keys_nonzero.0)))
