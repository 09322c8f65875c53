-- `ezumokarin::answers::of_object` meets its contract: in each arm the answer is known. Assumes nothing.
use Rattle.std.proofs.Common.{rules}
use Rattle.ezumokarin.specs.Names.{plain_object}
use Rattle.ezumokarin.proofs.answers.of_object.Goals as goal

pub returns-in-Ok : goal.returns-in-Ok
unfolding plain_object
returns-in-Ok c = rw c.in-Ok.is

pub returns-in-Err : goal.returns-in-Err
unfolding plain_object
returns-in-Err c = search rules
