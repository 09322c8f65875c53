-- A count from what a plan across a file says meets its contract: in each arm the answer is known. Assumes nothing.
use Rattle.std.proofs.Common.{rules}
use Rattle.ezumokarin.specs.Files.{plain_file}
use Rattle.ezumokarin.proofs.answers.FiledFromResultUsizeListRefusal.from.Goals as goal

pub returns-in-Ok : goal.returns-in-Ok
unfolding plain_file
returns-in-Ok c = rw c.in-Ok.is

pub returns-in-Err : goal.returns-in-Err
unfolding plain_file
returns-in-Err c = search rules
