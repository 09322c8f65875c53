-- The limits of paper 01 on chunk keys ("Blocks, names, keys"), each in this one place. Assumes nothing.
use Rattle.std.specs.Prelude.{ℕ}

-- a TKV key has "14 bytes"
abbrev pub tkv_size : ℕ
tkv_size = 14
