-- What is to be believed of chunk keys holds. Assumes nothing.
use Rattle.keys.specs.Claims.{KeysInverse}
use Rattle.keys.proofs.Laws.Keys.{redis_key_lem}
use Rattle.keys.proofs.Laws.Tkv.{tkv_key_lem}

pub keys_inverse : KeysInverse
keys_inverse = record { redis = redis_key_lem; tkv = tkv_key_lem }
