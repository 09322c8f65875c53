-- `keys::put_redis` meets its contract: its three parts, one behind the other. Assumes nothing.
use native.Mathlib.Omega.{arith}
use mathlib.Core.List.{append_assoc}
use Rattle.keys.specs.Keys.{redis_key}
use Rattle.codec.proofs.Laws.Splice.{puts_then, puts_as}
use Rattle.keys.proofs.put_redis.Goals as goal

pub returns : goal.returns
unfolding redis_key
returns c =
    let p1 = c.put_word-a.ensures in
    let p2 = puts_then p1 c.put_number_word-b.ensures (omega (arith, c.requires.2)) in
    let p3 = puts_then p2 c.put_digits.ensures (omega (arith, c.requires.2)) in
    puts_as (redis_key c.args.inode c.args.index) p3 (simp append_assoc) (omega arith)
