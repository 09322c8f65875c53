-- The blocks of a slice (paper 01, "Blocks, names, keys"). Assumes nothing.
use Rattle.std.specs.Prelude.{ℕ, zero, suc, ◌-◌, ◌*◌, ◌^◌, min, Bool, false, not, ◌&&◌, ◌||◌, leb, eqb}

-- the smallest and the largest block size
abbrev pub smallest : ℕ
smallest = 65536

abbrev pub largest : ℕ
largest = 16777216

-- B is 2 ^ k for some k below n
unfoldable pub power_below : ℕ → ℕ → Bool
power_below zero B = false
power_below (suc k) B = eqb B (2 ^ k) || power_below k B

-- the block size B is a power of two from 65,536 to 16,777,216 bytes
unfoldable pub block_allowed : ℕ → Bool
block_allowed B = leb smallest B && (leb B largest && power_below 25 B)

-- 8: block size not allowed
unfoldable pub block_size_bad : ℕ → Bool
block_size_bad B = not (block_allowed B)

-- a slice of the given size has blocks numbered from 0; block i holds min(B, size - i × B) bytes
unfoldable pub block_length : ℕ → ℕ → ℕ → ℕ
block_length B size i = min B (size - i * B)
