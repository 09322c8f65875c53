-- `slices::tree::search` meets its contract. The invariant: the search comes to the entry s with `left` of the id left. Assumes nothing.
use Rattle.slices.specs.Record.{record_at}
use Rattle.slices.specs.Tree.{Way}
use Rattle.slices.proofs.Laws.Tree.{depth}
use Rattle.slices.proofs.tree.search.Given as goal

abbrev pub invariant-loop-roots : goal.invariant-loop-roots
invariant-loop-roots l = Way (record_at l.list) l.table l.roots l.i l.id l.s l.left

abbrev pub decreases-loop-roots : goal.decreases-loop-roots
decreases-loop-roots l = depth l.table l.i l.s
