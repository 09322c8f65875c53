-- The limits of paper 01 on object names ("Blocks, names, keys"), each in this one place. Assumes nothing.
use Rattle.std.specs.Prelude.{ℕ}

-- "block 0 to 1,023"
abbrev pub max_block : ℕ
max_block = 1023

-- "block length 1 to 16,777,216"
abbrev pub max_length : ℕ
max_length = 16777216

-- a volume name has "1 to 63 bytes"
abbrev pub max_volume : ℕ
max_volume = 63
