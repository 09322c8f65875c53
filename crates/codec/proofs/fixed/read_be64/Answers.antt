-- `codec::fixed::read_be64` meets its contract: its upper and its lower four bytes. Assumes nothing.
use native.Mathlib.Omega.{arith}
use Rattle.codec.proofs.Laws.Fixed.{number_at-add}
use Rattle.codec.proofs.fixed.read_be64.Goals as goal

pub returns : goal.returns
returns c =
    omega (arith, number_at-add c.args.s.now c.args.at 4 4, c.read_be32-high.ensures, c.read_be32-low.ensures)
