-- The lengths and limits of lists and chunks, each in this one place: paper 01, and paper 02 (L6) for the number of records. Assumes nothing.
use Rattle.std.specs.Prelude.{ℕ, ◌-◌, ◌^◌}

-- a record is 24 bytes
abbrev pub record_size : ℕ
record_size = 24

-- a chunk is 67,108,864 bytes (64 MiB)
unfoldable pub chunk : ℕ
chunk = 67108864

-- the most records of a list (refusal 2)
abbrev pub max_records : ℕ
max_records = 2048

-- the index of a chunk is "any 32-bit number"
abbrev pub max_index : ℕ
max_index = 2 ^ 32 - 1
