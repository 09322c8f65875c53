-- `texts::text::put_number_word` meets its contract: a number, and the word behind it. Assumes nothing.
use native.Mathlib.Omega.{arith}
use Rattle.codec.proofs.Laws.Splice.{puts_then}
use Rattle.texts.proofs.text.put_number_word.Goals as goal

pub returns : goal.returns
returns c = puts_then c.put_digits-end.ensures c.put_word.ensures (omega arith)
