-- `judging::pieces::is_formed` meets its contract. Assumes nothing.
use mathlib.Core.Path.{◌∙◌}
use borrow.Author.Tests.{ne_eqb}
use Rattle.slices.specs.Limits.{chunk}
use Rattle.judging.proofs.Laws.Forms.{no_length, unmarked, outside, other_chunk, in_chunk_lem}
use Rattle.judging.proofs.pieces.is_formed.Goals as goal
use Rattle.judging.proofs.pieces.is_formed.Goals.{then-p-eq0-via-then-p-eq0, then-p-eq0-via-else-p-eq0+then-not-is_marked, then-p-eq0-via-else-p-eq0+else-not-is_marked+then-n-p}

pub returns-then-p-eq0 : goal.returns-then-p-eq0
returns-then-p-eq0 c =
    elim c.then-p-eq0.branch [
      | then-p-eq0-via-then-p-eq0 w ↦ no_length _ _ _ _ w.if-p-eq0.true
      | then-p-eq0-via-else-p-eq0+then-not-is_marked w ↦ unmarked _ _ _ _ _ w.is_marked.ensures w.if-not-is_marked.true
      | then-p-eq0-via-else-p-eq0+else-not-is_marked+then-n-p w ↦ outside _ _ _ _ _ w.is_marked.ensures w.if-p-eq0.false w.if-not-is_marked.false w.if-n-p.true
    ]

pub returns-then-p-first : goal.returns-then-p-first
unfolding chunk
returns-then-p-first c =
    in_chunk_lem _ _ _ _ _ c.is_marked.ensures c.if-p-eq0.false c.if-not-is_marked.false c.if-n-p.false c.if-p-first.true

pub returns-else-p-first : goal.returns-else-p-first
unfolding chunk
returns-else-p-first c =
    ne_eqb _ _ c.if-p-first.false
    ∙ other_chunk _ _ _ _ _ c.is_marked.ensures c.if-p-eq0.false c.if-not-is_marked.false c.if-n-p.false c.if-p-first.false
