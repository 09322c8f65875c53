-- `keys::write_redis_key` meets its contract: too large an index is refused, then too short a buffer; else the key is put into it. Assumes nothing.
use native.Mathlib.Omega.{arith}
use Rattle.keys.specs.Keys.{chunk_allowed, redis_key}
use Rattle.keys.proofs.Laws.Keys.{chunk_allowed_lem, chunk_large, redis_length_lem}
use Rattle.texts.proofs.Laws.Calls.{answers_not, answers_short, answers_put}
use Rattle.keys.proofs.write_redis_key.Goals as goal

pub returns-then-index-gt-MAX_INDEX : goal.returns-then-index-gt-MAX_INDEX
returns-then-index-gt-MAX_INDEX c =
    let a = c.args in
    answers_not (chunk_allowed a.inode a.index) (redis_key a.inode a.index) a.out.now _ (chunk_large a.inode a.index (omega arith) c.if-index-gt-MAX_INDEX.true) c.from.ensures

pub returns-then-out-i : goal.returns-then-out-i
returns-then-out-i c =
    let a = c.args in
    answers_short (chunk_allowed a.inode a.index) (redis_key a.inode a.index) a.out.now _ (chunk_allowed_lem a.inode a.index (record { inode = omega arith; index = c.if-index-gt-MAX_INDEX.false })) (omega (arith, redis_length_lem a.inode a.index, c.digits-i.ensures.0, c.digits-j.ensures.0, c.if-out-i.true)) c.from-then-out-i.ensures

pub returns : goal.returns
returns c =
    let a = c.args in
    answers_put (chunk_allowed a.inode a.index) (redis_key a.inode a.index) a.out.now _ _ _ (chunk_allowed_lem a.inode a.index (record { inode = omega arith; index = c.if-index-gt-MAX_INDEX.false })) (omega (arith, redis_length_lem a.inode a.index, c.digits-i.ensures.0, c.digits-j.ensures.0, c.if-out-i.false)) c.put_redis.ensures
