-- `slices::tree::search_with` meets its contract. The invariant: the tree has the first i records, and what is said of the list is said of its
-- records from i on. Assumes nothing.
use mathlib.Core.Path.{◌≡◌}
use lib.ListN.{length}
use Rattle.slices.specs.Inner.{size_outcome}
use Rattle.slices.specs.Tree.{Room}
use Rattle.slices.proofs.Laws.Sizes.{sizes_from}
use Rattle.slices.proofs.tree.search_with.Given as goal

abbrev pub invariant-loop-i : goal.invariant-loop-i
invariant-loop-i l = (length l.table ≡ length l.initial.table) × Room l.list l.table l.roots l.i × (size_outcome l.list ≡ sizes_from l.list l.i)
