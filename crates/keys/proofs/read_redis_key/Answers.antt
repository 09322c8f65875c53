-- `keys::read_redis_key` meets its contract: what reading all its parts finds. Assumes nothing.
use Rattle.std.proofs.Common.{rules}
use mathlib.Core.Path.{refl}
use Rattle.texts.proofs.Laws.Calls.{answers_read}
use Rattle.keys.specs.Inner.{key_of}
use Rattle.keys.specs.Keys.{named, chunk_of, read_redis}
use Rattle.keys.proofs.read_redis_key.Goals as goal

pub returns : goal.returns
unfolding read_redis
returns c = answers_read key_of chunk_of named (λ ns. refl) _ _ (rw c.read_redis_parts.ensures at c.map_err.ensures.cases) (λ i r q. search rules)
