-- A verdict of numbers from what is said of a plan meets its contract: in each arm the answer is known. Assumes nothing.
use Rattle.std.proofs.Common.{rules}
use Rattle.ezumokarin.specs.Judges.{plain_judged}
use Rattle.ezumokarin.proofs.judges.JudgedFromResultJudgingJudgedListRefusal.from.Goals as goal

pub returns-in-Ok-Accepted : goal.returns-in-Ok-Accepted
unfolding plain_judged
returns-in-Ok-Accepted c = search rules

pub returns-in-Ok-WrongPiece : goal.returns-in-Ok-WrongPiece
unfolding plain_judged
returns-in-Ok-WrongPiece c = search rules

pub returns-in-Ok-WrongByte : goal.returns-in-Ok-WrongByte
unfolding plain_judged
returns-in-Ok-WrongByte c = search rules

pub returns-in-Err : goal.returns-in-Err
unfolding plain_judged
returns-in-Err c = search rules
