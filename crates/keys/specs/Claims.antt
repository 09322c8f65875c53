-- What is to be believed of chunk keys, in one record: reading is the inverse of writing. `keys_inverse` of proofs/Laws/Claims.antt proves
-- it. Assumes nothing.
use Rattle.codec.specs.All.{Bytes}
use Rattle.texts.specs.Inverse.{Inverse, Any}
use Rattle.keys.specs.Keys.{chunk_allowed, redis_key, read_redis, tkv_key, read_tkv}

pub record KeysInverse : Type 0 where
  -- Redis keys, over any text
  pub redis : Inverse Any (λ c. chunk_allowed c.inode c.index) (λ c. redis_key c.inode c.index) read_redis
  -- TKV keys, over bytes
  pub tkv : Inverse Bytes (λ c. chunk_allowed c.inode c.index) (λ c. tkv_key c.inode c.index) read_tkv
