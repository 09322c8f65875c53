-- A segment of numbers from what a search says meets its contract: in each arm the answer is known. Assumes nothing.
use Rattle.std.proofs.Common.{rules}
use Rattle.ezumokarin.specs.Seeks.{plain_sought}
use Rattle.ezumokarin.proofs.answers.FoundFromResultOptionSeekingFoundRefusal.from.Goals as goal

pub returns-in-Ok-None : goal.returns-in-Ok-None
unfolding plain_sought
returns-in-Ok-None c = search rules

pub returns-in-Ok-Some : goal.returns-in-Ok-Some
unfolding plain_sought
returns-in-Ok-Some c = search rules

pub returns-in-Err : goal.returns-in-Err
unfolding plain_sought
returns-in-Err c = search rules
