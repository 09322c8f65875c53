-- `coverage::chain::chain` meets its contract. Assumes nothing.
use Prim.Native.Nat.{◌<◌}
use native.Mathlib.Omega.{arith}
use lib.ListN.{length-take}
use lib.Seq.{get_or-take}
use Rattle.coverage.proofs.Laws.Chained.{walked_none, walked_more, chained_end, chained_twice, chained_gap}
use Rattle.coverage.proofs.chain.chain.Goals as goal

pub loop-number-init : goal.loop-number-init
loop-number-init c = walked_none _ _ _

pub returns-then-start-q : goal.returns-then-start-q
returns-then-start-q c =
    let pre = c.requires in
    let below : c.loop-number.number-index < c.args.c = omega (arith, length-take c.args.c c.args.order.now) in
    chained_twice _ _ _ _ pre.2 _ _ c.loop-number.invariant _ below (get_or-take _ _ _ _ below) pre.3 (omega arith)

pub returns-then-q-start : goal.returns-then-q-start
returns-then-q-start c =
    let below : c.loop-number.number-index < c.args.c = omega (arith, length-take c.args.c c.args.order.now) in
    chained_gap _ _ _ _ c.requires.2 _ _ c.loop-number.invariant _ below (get_or-take _ _ _ _ below) c.if-q-start.true

pub loop-number-preserved : goal.loop-number-preserved
loop-number-preserved c =
    let below : c.loop-number.number-index < c.args.c = omega (arith, length-take c.args.c c.args.order.now) in
    walked_more _ _ _ _ _ _ (get_or-take _ _ _ _ below) (omega arith) c.loop-number.invariant

pub returns : goal.returns
returns c =
    let all = length-take c.args.c c.args.order.now in
    chained_end _ _ _ _ c.requires.2 _ _ c.loop-number.invariant (omega (arith, all)) (omega (arith, all))
