-- `ezumokarin::answers::a_segment` meets its contract: each number is passed on in its field. Assumes nothing.
use mathlib.Core.Path.{refl}
use Rattle.ezumokarin.proofs.answers.a_segment.Goals as goal

pub returns : goal.returns
returns c = refl
