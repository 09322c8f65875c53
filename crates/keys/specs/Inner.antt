-- Inner: how long a text is that the code writes, and what is read of one. It serves the contracts of inner functions alone. Assumes nothing.
use Rattle.std.specs.Prelude.{ℕ, ◌+◌, List, get_or}
use Rattle.keys.specs.declared.ChunkKey.{ChunkKey}

-- the bytes of a Redis key whose numbers have i and j digits: two words of one byte, two numbers
abbrev pub redis_length : ℕ → ℕ → ℕ
redis_length i j = 2 + (i + j)

-- what the numbers of a Redis key say
abbrev pub key_of : List ℕ → ChunkKey
key_of ns = record { inode = get_or ns 0 0; index = get_or ns 1 0 }
