-- Two counts from what compaction says meets its contract: in each arm the answer is known. Assumes nothing.
use Rattle.std.proofs.Common.{rules}
use Rattle.ezumokarin.specs.Compact.{plain_compacted}
use Rattle.ezumokarin.proofs.answers.CompactFromResultCompactedRefusal.from.Goals as goal

pub returns-in-Ok : goal.returns-in-Ok
unfolding plain_compacted
returns-in-Ok c = rw c.in-Ok.is

pub returns-in-Err : goal.returns-in-Err
unfolding plain_compacted
returns-in-Err c = search rules
