-- `names::volume::is_volume_byte` meets its contract, case by case. Assumes nothing.
use Rattle.names.proofs.Laws.Volume.{or_none}
use borrow.Author.Tests.{le-leb, lt-leb, ne_eqb}
use native.Mathlib.Omega.{arith}
use Rattle.names.proofs.volume.is_volume_byte.Goals as goal

pub returns-then-b-ge97 : goal.returns-then-b-ge97
returns-then-b-ge97 c =
    let b = c.args.b in simp (le-leb 97 b c.if-b-ge97.true, lt-leb b 57 (omega arith), le-leb 48 b (omega arith), ne_eqb b 45 (omega arith)) (or_none _)

pub returns-then-b-ge48 : goal.returns-then-b-ge48
returns-then-b-ge48 c =
    let b = c.args.b in simp (lt-leb 97 b c.if-b-ge97.false, le-leb 48 b c.if-b-ge48.true, ne_eqb b 45 (omega arith)) (or_none _)

pub returns : goal.returns
returns c = let b = c.args.b in simp (lt-leb 97 b c.if-b-ge97.false, lt-leb 48 b c.if-b-ge48.false)
