-- `ezumokarin::steps::of_file_next` meets its contract: in each arm the answer is known. Assumes nothing.
use Rattle.std.proofs.Common.{rules}
use Rattle.ezumokarin.specs.Steps.{plain_file_next}
use Rattle.ezumokarin.proofs.steps.of_file_next.Goals as goal

pub returns-in-Ok-Some : goal.returns-in-Ok-Some
unfolding plain_file_next
returns-in-Ok-Some c = search rules

pub returns-in-Ok-None : goal.returns-in-Ok-None
unfolding plain_file_next
returns-in-Ok-None c = search rules

pub returns-in-Err : goal.returns-in-Err
unfolding plain_file_next
returns-in-Err c = search rules
