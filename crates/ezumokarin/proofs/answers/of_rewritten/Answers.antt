-- `ezumokarin::answers::of_rewritten` meets its contract: in each arm the answer is known. Assumes nothing.
use Rattle.std.proofs.Common.{rules}
use Rattle.ezumokarin.specs.Changes.{plain_part}
use Rattle.ezumokarin.proofs.answers.of_rewritten.Goals as goal

pub returns-in-Ok : goal.returns-in-Ok
unfolding plain_part
returns-in-Ok c = search rules

pub returns-in-Err : goal.returns-in-Err
unfolding plain_part
returns-in-Err c = search rules
