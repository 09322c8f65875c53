-- `codec::width::many_digits` meets its contract: a number of more than ten digits lies between the powers of ten that it was compared with. Assumes nothing.
use Rattle.codec.proofs.Laws.Decimal.{tenfold}
use Rattle.codec.proofs.Laws.Width.{decimal_width}
use native.Mathlib.Omega.{arith}
use Rattle.codec.proofs.width.many_digits.Goals as goal

pub returns-then-n-lt100000000000 : goal.returns-then-n-lt100000000000
unfolding tenfold
returns-then-n-lt100000000000 c = decimal_width 10 _ (omega arith) (omega arith)

pub returns-then-n-lt1000000000000 : goal.returns-then-n-lt1000000000000
unfolding tenfold
returns-then-n-lt1000000000000 c = decimal_width 11 _ (omega arith) (omega arith)

pub returns-then-n-lt10000000000000 : goal.returns-then-n-lt10000000000000
unfolding tenfold
returns-then-n-lt10000000000000 c = decimal_width 12 _ (omega arith) (omega arith)

pub returns-then-n-lt100000000000000 : goal.returns-then-n-lt100000000000000
unfolding tenfold
returns-then-n-lt100000000000000 c = decimal_width 13 _ (omega arith) (omega arith)

pub returns-then-n-lt1000000000000000 : goal.returns-then-n-lt1000000000000000
unfolding tenfold
returns-then-n-lt1000000000000000 c = decimal_width 14 _ (omega arith) (omega arith)

pub returns-then-n-lt10000000000000000 : goal.returns-then-n-lt10000000000000000
unfolding tenfold
returns-then-n-lt10000000000000000 c = decimal_width 15 _ (omega arith) (omega arith)

pub returns-then-n-lt100000000000000000 : goal.returns-then-n-lt100000000000000000
unfolding tenfold
returns-then-n-lt100000000000000000 c = decimal_width 16 _ (omega arith) (omega arith)

pub returns-then-n-lt1000000000000000000 : goal.returns-then-n-lt1000000000000000000
unfolding tenfold
returns-then-n-lt1000000000000000000 c = decimal_width 17 _ (omega arith) (omega arith)

pub returns-then-n-lt10000000000000000000 : goal.returns-then-n-lt10000000000000000000
unfolding tenfold
returns-then-n-lt10000000000000000000 c = decimal_width 18 _ (omega arith) (omega arith)

pub returns : goal.returns
unfolding tenfold
returns c = decimal_width 19 _ (omega arith) (omega arith)
