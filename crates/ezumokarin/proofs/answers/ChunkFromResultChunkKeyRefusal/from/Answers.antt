-- A chunk of numbers from what a key says meets its contract: in each arm the answer is known. Assumes nothing.
use Rattle.std.proofs.Common.{rules}
use Rattle.ezumokarin.specs.Names.{plain_chunk}
use Rattle.ezumokarin.proofs.answers.ChunkFromResultChunkKeyRefusal.from.Goals as goal

pub returns-in-Ok : goal.returns-in-Ok
unfolding plain_chunk
returns-in-Ok c = rw c.in-Ok.is

pub returns-in-Err : goal.returns-in-Err
unfolding plain_chunk
returns-in-Err c = search rules
