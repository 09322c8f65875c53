-- `codec::little::read_le64` meets its contract: its lower and its upper four bytes. Assumes nothing.
use native.Mathlib.Omega.{arith}
use Rattle.codec.proofs.Laws.Little.{little_at-add}
use Rattle.codec.proofs.little.read_le64.Goals as goal

pub returns : goal.returns
returns c =
    omega (arith, little_at-add c.args.s.now c.args.at 4 4, c.read_le32-low.ensures, c.read_le32-high.ensures)
