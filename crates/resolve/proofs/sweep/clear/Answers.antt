-- `resolve::sweep::clear` meets its contract. Assumes nothing.
use Prim.Native.Nat.{◌+◌, ◌*◌, ◌<◌}
use native.Mathlib.Omega.{arith}
use lib.ListN.{length}
use Rattle.resolve.proofs.Laws.Digits.{unit_le}
use Rattle.resolve.proofs.Laws.Sweep.{clearing_inside, clearing_more, cleared_some, cleared_none}
use Rattle.resolve.proofs.sweep.clear.Goals as goal
use Rattle.resolve.proofs.sweep.clear.Goals.{After-high-b}

-- the record is one of those that have ends
inside : (c : After-high-b)
    → c.args.a * 64 + c.high-b.result < length c.args.ends.now
inside c =
    c.requires.by_index _ (clearing_inside _ _ _ _ _ c.requires.high _ c.loop-rest.invariant c.loop-rest-test.true _ c.high-b.ensures)

pub bounds-ends-last : goal.bounds-ends-last
bounds-ends-last c = inside (goal.at.bounds-ends-last c).After-high-b

pub returns-then-q-end : goal.returns-then-q-end
returns-then-q-end c =
    cleared_some _ _ _ _ _ c.requires.high _ c.loop-rest.invariant c.loop-rest-test.true _ c.high-b.ensures c.requires.summed c.if-q-end.true

pub overflow_sub-rest : goal.overflow_sub-rest
overflow_sub-rest c = rw c.unit-rest.ensures (unit_le _ _ c.high-b.ensures.one)

pub loop-rest-preserved : goal.loop-rest-preserved
loop-rest-preserved c =
    clearing_more _ _ _ _ _ c.requires.high _ c.loop-rest.invariant c.loop-rest-test.true _ c.high-b.ensures c.if-q-end.false _ (rw c.unit-rest.ensures)

pub returns : goal.returns
returns c =
    cleared_none _ _ _ _ _ c.requires.high c.requires.summed _ _ _ c.loop-rest.invariant (omega (arith, c.loop-rest-test.false))
