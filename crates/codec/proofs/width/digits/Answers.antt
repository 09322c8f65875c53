-- `codec::width::digits` meets its contract. Assumes nothing.
use Rattle.codec.proofs.Laws.Decimal.{decimal-length}
use native.Mathlib.Omega.{arith}
use Rattle.codec.proofs.width.digits.Goals as goal

pub returns-then-n-lt10000000000 : goal.returns-then-n-lt10000000000
returns-then-n-lt10000000000 c = (c.few_digits.ensures, omega (arith, c.few_digits.ensures, decimal-length c.args.n c.ranges.n.fits))

pub returns-else-n-lt10000000000 : goal.returns-else-n-lt10000000000
returns-else-n-lt10000000000 c =
    (c.many_digits.ensures, omega (arith, c.many_digits.ensures, decimal-length c.args.n c.ranges.n.fits))
