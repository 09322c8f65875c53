-- `slices::tree::enter` meets its contract: where the search ends says whether the record agrees with the earlier ones. Assumes nothing.
use Prim.Native.Nat.{◌<◌}
use native.Mathlib.Omega.{arith}
use native.Mathlib.Numerals.{add-one}
use mathlib.Core.Path.{sym, ◌∙◌}
use mathlib.Core.Logic.{◌≢◌}
use lib.ListN.{length}
use Rattle.slices.specs.Record.{record_at, count}
use Rattle.slices.specs.Tree.{AtNode, AtFree}
use Rattle.slices.proofs.Laws.Tree.{enter_zeros, enter_node, enter_new}
use Rattle.slices.proofs.tree.enter.Goals as goal
use Rattle.slices.proofs.tree.enter.Goals.{Else-id-eq0, In-Free, In-Node}

-- the search ends at a record with the id
at_node : (c : In-Node)
    → AtNode (record_at c.args.list.now) c.args.table.now c.args.roots c.args.i (record_at c.args.list.now c.args.i).id c.in-Node.node
at_node c =
    rw (c.in-Node.is, c.read_id-id.ensures) at c.search.ensures

-- the search ends at a free place
at_free : (c : In-Free)
    → AtFree (record_at c.args.list.now) c.args.table.now c.args.roots c.args.i (record_at c.args.list.now c.args.i).id c.in-Free.s
at_free c =
    rw (c.in-Free.is, c.read_id-id.ensures) at c.search.ensures

free_in : (c : In-Free) → c.in-Free.s < length c.args.table.now
unfolding count
free_in c =
    omega (arith, (at_free c).way.inside, c.requires.room.room)

-- its id is not 0
some_id : (c : Else-id-eq0) → (record_at c.args.list.now c.args.i).id ≢ 0
some_id c z = c.if-id-eq0.false (c.read_id-id.ensures ∙ z)

pub read_id-id-requires : goal.read_id-id-requires
unfolding count
read_id-id-requires c = omega arith

pub returns-then-id-eq0 : goal.returns-then-id-eq0
returns-then-id-eq0 c = enter_zeros _ _ _ _ c.requires.room (sym c.read_id-id.ensures ∙ c.if-id-eq0.true)

pub read_size-requires : goal.read_size-requires
unfolding count
read_size-requires c = let a = at_node c in omega (arith, a.below)

pub read_size-requires-in-Node : goal.read_size-requires-in-Node
unfolding count
read_size-requires-in-Node c = omega arith

pub returns-in-Node : goal.returns-in-Node
returns-in-Node c =
    rw (c.read_size.ensures, c.read_size-in-Node.ensures) (enter_node _ _ _ _ c.requires.room (some_id (goal.at.returns-in-Node c).Else-id-eq0) _ (at_node (goal.at.returns-in-Node c).In-Node))

pub returns-in-Free : goal.returns-in-Free
returns-in-Free c =
    rw add-one (enter_new _ _ _ _ c.requires.room (some_id (goal.at.returns-in-Free c).Else-id-eq0) _ (at_free c) (free_in c))
