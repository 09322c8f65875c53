-- `slices::tree::search_many` meets its contract: its table has room for the most records of a list. Assumes nothing.
use native.Mathlib.Omega.{arith}
use Rattle.slices.proofs.Laws.Tree.{room_start}
use Rattle.slices.proofs.tree.search_many.Goals as goal

pub search_with-requires : goal.search_with-requires
search_with-requires c = room_start _ 20480 4096 (omega arith) (omega arith) (omega arith)
