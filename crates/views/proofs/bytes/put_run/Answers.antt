-- `views::bytes::put_run` meets its contract: the len, and before it what the record on top tells. Assumes nothing.
use Rattle.std.proofs.Common.{rules}
use Prim.Native.Nat.{suc, ◌+◌, ◌-◌, ◌≤◌, ◌<◌}
use native.Mathlib.Omega.{arith}
use mathlib.Core.Path.{◌≡◌}
use Rattle.slices.specs.Passes.{Passes}
use Rattle.slices.specs.Record.{record_at, count}
use Rattle.slices.proofs.Laws.Record.{records_at}
use Rattle.resolve.proofs.Laws.Resolved.{source_zero, source_some}
use Rattle.views.proofs.Laws.Tops.{hole_put, given_put}
use Rattle.views.proofs.bytes.put_run.Goals as goal
use Rattle.views.proofs.bytes.put_run.Goals.{After-wide}

-- the record's number, from 0
is : (c : After-wide) → c.args.top ≡ suc (c.wide.result - 1)
is c = omega (arith, c.wide.ensures, c.if-top-eq0.false)

-- it covers the position
covers : (c : After-wide)
    → (c.wide.result - 1 < count c.args.list.now)
    × ((record_at c.args.list.now (c.wide.result - 1)).pos ≤ c.args.p)
    × (c.args.p + 1 ≤ (record_at c.args.list.now (c.wide.result - 1)).pos + (record_at c.args.list.now (c.wide.result - 1)).len)
covers c = c.requires.on_top.covering _ (is c)

pub returns-then-top-eq0 : goal.returns-then-top-eq0
returns-then-top-eq0 c =
    hole_put _ _ _ _ _ _ c.requires.record_size_in_bounds c.write_be32.ensures c.put_hole.ensures _ (source_zero _ _ _ c.requires.on_top c.if-top-eq0.true)

pub put_given-requires : goal.put_given-requires
unfolding count
put_given-requires c =
    record { record_size_in_bounds = omega (arith, (covers (goal.at.put_given-requires c).After-wide).0); passes = records_at Passes _ c.requires.all _ (covers (goal.at.put_given-requires c).After-wide).0; i_bound = ((covers (goal.at.put_given-requires c).After-wide).1, omega (arith, (covers (goal.at.put_given-requires c).After-wide).2)); record_size_in_bounds_2 = search rules }

pub returns : goal.returns
returns c =
    given_put _ _ _ _ _ _ c.requires.record_size_in_bounds c.write_be32.ensures _ c.put_given.ensures _
    (source_some _ _ _ _ c.requires.on_top (is (goal.at.returns c).After-wide))
