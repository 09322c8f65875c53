-- `seeking::bytes::seek` meets its contract. Assumes nothing.
use native.Mathlib.Omega.{arith}
use Rattle.std.proofs.Common.{rules}
use Rattle.slices.specs.Record.{count}
use Rattle.seeking.proofs.Laws.Seek.{seek_none, seek_tested}
use Rattle.seeking.proofs.bytes.seek.Goals as goal

pub returns-then-n-eq0 : goal.returns-then-n-eq0
returns-then-n-eq0 c = seek_none _ _ _ c.if-n-eq0.true

pub halve-k-requires-clause-callable : goal.halve-k-requires-clause-callable
unfolding count
halve-k-requires-clause-callable c = λ i h _ _ _ _ _ _ _. omega (arith, c.requires)

pub read_record-requires : goal.read_record-requires
unfolding count
read_record-requires c = omega (arith, c.halve-k.ensures.below, c.requires)

pub returns : goal.returns
returns c = seek_tested _ _ _ c.if-n-eq0.false _ _ _ (c.halve-k.ensures.value _ (λ i r h e. search rules)) c.read_record.ensures c.if_held.ensures
