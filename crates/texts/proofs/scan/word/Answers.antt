-- `texts::scan::word` meets its contract. The invariant: the rest of the word, from the place reached, decides. Assumes nothing.
use lib.ListN.{drop_of_length-le}
use Rattle.texts.proofs.Laws.Steps.{word_past, word_differs, word_same}
use mathlib.Core.Path.{sym, ◌∙◌}
use native.Mathlib.Numerals.{add-one}
use Rattle.texts.specs.Parts.{word_at}
use Rattle.texts.proofs.scan.word.Goals as goal
use Rattle.texts.proofs.scan.word.Goals.{then-text-i-via-then-text-i, then-text-i-via-else-text-i+then-text-i-2}

pub returns-then-text-i : goal.returns-then-text-i
returns-then-text-i c =
    let a = c.args in
    let l = c.loop-byte in
    elim c.then-text-i.branch [
      | then-text-i-via-then-text-i w ↦ sym (l.invariant ∙ word_past a.word.now a.text.now l.byte-index l.i c.loop-byte-test.true w.if-text-i.true)
      | then-text-i-via-else-text-i+then-text-i-2 w ↦
          sym (l.invariant ∙ word_differs a.word.now a.text.now l.byte-index l.i c.loop-byte-test.true w.if-text-i.false w.if-text-i-2.true)
    ]

pub loop-byte-preserved : goal.loop-byte-preserved
loop-byte-preserved c =
    let a = c.args in
    let l = c.loop-byte in
    l.invariant ∙ word_same a.word.now a.text.now l.byte-index l.i c.loop-byte-test.true c.if-text-i.false c.if-text-i-2.false ∙ rw (add-one, add-one)

pub returns : goal.returns
unfolding word_at
returns c = let a = c.args in sym (c.loop-byte.invariant ∙ rw (drop_of_length-le a.word.now c.loop-byte-test.false))
