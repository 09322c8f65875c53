-- `texts::scan::word` meets its contract. The invariant: the rest of the word, from the place reached, decides. Assumes nothing.
use lib.ListN.{drop}
use mathlib.Core.Path.{◌≡◌}
use Rattle.texts.specs.Parts.{word_at}
use Rattle.texts.proofs.scan.word.Given as goal

abbrev pub invariant-loop-byte : goal.invariant-loop-byte
invariant-loop-byte l = word_at l.word l.at (drop l.at l.text) ≡ word_at (drop l.byte-index l.word) l.i (drop l.i l.text)
