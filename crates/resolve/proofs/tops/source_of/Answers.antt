-- `resolve::tops::source_of` meets its contract. Assumes nothing.
use Prim.Native.Nat.{suc, ◌+◌, ◌-◌, ◌≤◌, ◌<◌}
use native.Mathlib.Omega.{arith}
use mathlib.Core.Path.{◌≡◌, sym, ap, ◌∙◌}
use Rattle.slices.specs.Cover.{given}
use Rattle.slices.specs.Passes.{Passes}
use Rattle.slices.specs.Record.{record_at, count}
use Rattle.slices.proofs.Laws.Record.{records_at}
use Rattle.resolve.proofs.Laws.Resolved.{source_zero, source_some}
use Rattle.resolve.proofs.tops.source_of.Goals as goal
use Rattle.resolve.proofs.tops.source_of.Goals.{After-from-i}

-- the record's number, from 0
is : (c : After-from-i) → c.args.top ≡ suc (c.from-i.result - 1)
is c = omega (arith, c.from-i.ensures, c.if-top-eq0.false)

-- it covers the position
covers : (c : After-from-i)
    → (c.from-i.result - 1 < count c.args.list.now)
    × ((record_at c.args.list.now (c.from-i.result - 1)).pos ≤ c.args.p)
    × (c.args.p + 1 ≤ (record_at c.args.list.now (c.from-i.result - 1)).pos + (record_at c.args.list.now (c.from-i.result - 1)).len)
covers c = c.requires.on_top.covering _ (is c)

pub returns-then-top-eq0 : goal.returns-then-top-eq0
returns-then-top-eq0 c = sym (source_zero _ _ _ c.requires.on_top c.if-top-eq0.true)

pub read_pos-requires : goal.read_pos-requires
unfolding count
read_pos-requires c = omega (arith, (covers c).0)

pub given-requires-clause-record_size_in_bounds : goal.given-requires-clause-record_size_in_bounds
unfolding count
given-requires-clause-record_size_in_bounds c = omega (arith, (covers (goal.at.given-requires-clause-record_size_in_bounds c).After-from-i).0)

pub given-requires-clause-passes : goal.given-requires-clause-passes
given-requires-clause-passes c = records_at Passes _ c.requires.all _ (covers (goal.at.given-requires-clause-passes c).After-from-i).0

pub returns : goal.returns
returns c =
    let e : (record_at c.args.list.now (c.from-i.result - 1)).pos + (c.args.p - c.read_pos.result) ≡ c.args.p = omega (arith, (covers (goal.at.returns c).After-from-i).1, c.read_pos.ensures) in
    c.given.ensures ∙ ap (given (record_at c.args.list.now (c.from-i.result - 1))) e ∙ sym (source_some _ _ _ _ c.requires.on_top (is (goal.at.returns c).After-from-i))
