-- `codec::little::read_le32` meets its contract: the number of four bytes, written out. Assumes nothing.
use native.Mathlib.Omega.{arith}
use native.Mathlib.Nat.{add-zero}
use Rattle.codec.specs.Little.{little_at}
use Rattle.codec.proofs.little.read_le32.Goals as goal

pub returns : goal.returns
unfolding little_at
returns c = rw add-zero (omega (arith, c.from_le_bytes.ensures))
