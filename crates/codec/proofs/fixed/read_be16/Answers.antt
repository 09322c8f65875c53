-- `codec::fixed::read_be16` meets its contract: the number of two bytes, written out. Assumes nothing.
use native.Mathlib.Omega.{arith}
use native.Mathlib.Nat.{add-zero}
use Rattle.codec.specs.Fixed.{number_at}
use Rattle.codec.proofs.fixed.read_be16.Goals as goal

pub returns : goal.returns
unfolding number_at
returns c = rw add-zero (omega (arith, c.from_be_bytes.ensures))
