-- `files::wrong_chunks` meets its contract. Assumes nothing.
use native.Mathlib.Omega.{arith}
use Rattle.files.proofs.Laws.Chunks.{wrong_none, wrong_many, wrong_sum, wrong_index}
use Rattle.files.proofs.wrong_chunks.Goals as goal

pub returns-then-n-eq0 : goal.returns-then-n-eq0
returns-then-n-eq0 c = wrong_none _ _ _ c.if-n-eq0.true

pub returns-then-n-gt-LISTS : goal.returns-then-n-gt-LISTS
returns-then-n-gt-LISTS c = wrong_many _ _ _ c.if-n-gt-LISTS.true

pub returns-then-adds_up : goal.returns-then-adds_up
returns-then-adds_up c =
    wrong_index _ _ _ (omega (arith, c.if-n-eq0.false)) c.if-n-gt-LISTS.false _ c.adds_up.ensures c.if-adds_up.true

pub returns : goal.returns
returns c =
    wrong_sum _ _ _ (omega (arith, c.if-n-eq0.false)) c.if-n-gt-LISTS.false _ c.adds_up.ensures c.if-adds_up.false
