-- The limit of paper 02 (L9) on the lists of a file, in this one place. Assumes nothing.
use Rattle.std.specs.Prelude.{ℕ}

-- "the lists of 1 to 16 chunks"
abbrev pub max_lists : ℕ
max_lists = 16
