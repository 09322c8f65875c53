-- The largest number of names and keys (paper 01, "Blocks, names, keys"). Assumes nothing.
use Rattle.std.specs.Prelude.{ℕ, ◌-◌, ◌^◌}

-- "Id is 1 up to the largest 64-bit number", "Inode is any 64-bit number"
abbrev pub max_number : ℕ
max_number = 2 ^ 64 - 1
