-- A count from what a call says meets its contract: in each arm the answer is known. Assumes nothing.
use Rattle.std.proofs.Common.{rules}
use Rattle.ezumokarin.specs.Plain.{plain_answer}
use Rattle.ezumokarin.proofs.answers.PlainFromResultUsizeRefusal.from.Goals as goal

pub returns-in-Ok : goal.returns-in-Ok
unfolding plain_answer
returns-in-Ok c = rw c.in-Ok.is

pub returns-in-Err : goal.returns-in-Err
unfolding plain_answer
returns-in-Err c = search rules
