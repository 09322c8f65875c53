-- `slices::tree::search_some` meets its contract: its table has room for 256 records. Assumes nothing.
use native.Mathlib.Omega.{arith}
use Rattle.slices.proofs.Laws.Tree.{room_start}
use Rattle.slices.proofs.tree.search_some.Goals as goal

pub search_with-requires : goal.search_with-requires
search_with-requires c = room_start _ 2560 512 (omega arith) (omega arith) (omega arith)
