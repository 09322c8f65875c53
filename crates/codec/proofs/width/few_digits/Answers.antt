-- `codec::width::few_digits` meets its contract: a number of at most ten digits lies between the powers of ten that it was compared with. Assumes nothing.
use Rattle.codec.proofs.Laws.Decimal.{tenfold, decimal_digit}
use Rattle.codec.proofs.Laws.Width.{decimal_width}
use native.Mathlib.Omega.{arith}
use mathlib.Core.Path.{sym, ap}
use lib.ListN.{length}
use Rattle.codec.proofs.width.few_digits.Goals as goal

pub returns-then-n-lt10 : goal.returns-then-n-lt10
returns-then-n-lt10 c = sym (ap length (decimal_digit _ (omega arith)))

pub returns-then-n-lt100 : goal.returns-then-n-lt100
unfolding tenfold
returns-then-n-lt100 c = decimal_width 1 _ (omega arith) (omega arith)

pub returns-then-n-lt1000 : goal.returns-then-n-lt1000
unfolding tenfold
returns-then-n-lt1000 c = decimal_width 2 _ (omega arith) (omega arith)

pub returns-then-n-lt10000 : goal.returns-then-n-lt10000
unfolding tenfold
returns-then-n-lt10000 c = decimal_width 3 _ (omega arith) (omega arith)

pub returns-then-n-lt100000 : goal.returns-then-n-lt100000
unfolding tenfold
returns-then-n-lt100000 c = decimal_width 4 _ (omega arith) (omega arith)

pub returns-then-n-lt1000000 : goal.returns-then-n-lt1000000
unfolding tenfold
returns-then-n-lt1000000 c = decimal_width 5 _ (omega arith) (omega arith)

pub returns-then-n-lt10000000 : goal.returns-then-n-lt10000000
unfolding tenfold
returns-then-n-lt10000000 c = decimal_width 6 _ (omega arith) (omega arith)

pub returns-then-n-lt100000000 : goal.returns-then-n-lt100000000
unfolding tenfold
returns-then-n-lt100000000 c = decimal_width 7 _ (omega arith) (omega arith)

pub returns-then-n-lt1000000000 : goal.returns-then-n-lt1000000000
unfolding tenfold
returns-then-n-lt1000000000 c = decimal_width 8 _ (omega arith) (omega arith)

pub returns : goal.returns
unfolding tenfold
returns c = decimal_width 9 _ (omega arith) (omega arith)
