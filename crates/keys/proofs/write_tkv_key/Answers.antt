-- `keys::write_tkv_key` meets its contract: too large an index is refused, else the key is delivered. Assumes nothing.
use native.Mathlib.Omega.{arith}
use mathlib.Core.Path.{sym, ◌∙◌}
use Rattle.keys.specs.Keys.{chunk_allowed, tkv_key}
use Rattle.keys.proofs.Laws.Keys.{chunk_allowed_lem, chunk_large}
use Rattle.codec.proofs.Laws.Splice.{splice_whole}
use Rattle.keys.proofs.Laws.Tkv.{length-tkv_key}
use Rattle.texts.proofs.Laws.Calls.{answers_not, answers_line}
use Rattle.keys.proofs.write_tkv_key.Goals as goal

pub returns-then-index-gt-MAX_INDEX : goal.returns-then-index-gt-MAX_INDEX
returns-then-index-gt-MAX_INDEX c =
    let a = c.args in
    answers_not (chunk_allowed a.inode a.index) (tkv_key a.inode a.index) a.out.now _ (chunk_large a.inode a.index (omega arith) c.if-index-gt-MAX_INDEX.true) c.from.ensures

pub returns : goal.returns
returns c =
    let a = c.args in
    answers_line (chunk_allowed a.inode a.index) (tkv_key a.inode a.index) _ a.out.now _ _ (chunk_allowed_lem a.inode a.index (record { inode = omega arith; index = c.if-index-gt-MAX_INDEX.false })) (c.put_tkv.ensures ∙ splice_whole _ (tkv_key a.inode a.index) (sym (length-tkv_key a.inode a.index))) c.deliver.ensures
