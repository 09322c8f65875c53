-- `slices::tree::search` meets its contract. Assumes nothing.
use Prim.Native.Nat.{suc, ◌-◌, ◌<◌}
use native.Mathlib.Omega.{arith}
use mathlib.Core.Path.{◌≡◌, ◌∙◌}
use lib.ListN.{get_or}
use Rattle.slices.specs.Record.{count}
use Rattle.slices.proofs.Laws.Tree.{way_on, depth_less}
use Rattle.slices.proofs.tree.search.Goals as goal
use Rattle.slices.proofs.tree.search.Goals.{Else-entry-eq0}

-- the entry is a record of the tree
entry_is : (c : Else-entry-eq0)
    → get_or c.args.table.now c.loop-roots.s 0 ≡ suc (c.from-entry.result - 1)
entry_is c = let e = c.from-entry.ensures in omega (arith, c.if-entry-eq0.false)

in_tree : (c : Else-entry-eq0) → c.from-entry.result - 1 < c.args.i
in_tree c =
    let e = c.from-entry.ensures in
    let b = c.requires.room.tree.below c.loop-roots.s in
    omega (arith, c.if-entry-eq0.false)

pub read_id-requires : goal.read_id-requires
unfolding count
read_id-requires c = omega (arith, in_tree c)

pub loop-roots-smaller : goal.loop-roots-smaller
loop-roots-smaller c =
    depth_less _ _ _ _ c.requires.room.tree _ _ _ (entry_is (goal.at.loop-roots-smaller c).Else-entry-eq0)

pub loop-roots-preserved : goal.loop-roots-preserved
loop-roots-preserved c =
    way_on _ _ _ _ _ _ _ _ c.loop-roots.invariant (entry_is (goal.at.loop-roots-preserved c).Else-entry-eq0) (in_tree (goal.at.loop-roots-preserved c).Else-entry-eq0) (λ z. c.if-read_id-id.false (c.read_id.ensures ∙ z))
