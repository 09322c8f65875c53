-- `codec::pairs::table` meets its contract: each entry is tested. Assumes nothing.
use Rattle.codec.proofs.Laws.Pairs.{pair_table}
use mathlib.Core.Path.{refl}
use Rattle.codec.proofs.pairs.table.Goals as goal

pub returns : goal.returns
returns c = pair_table _ refl tt
