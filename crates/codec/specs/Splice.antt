-- A buffer into which bytes are put. Assumes nothing.
use Rattle.std.specs.Prelude.{ℕ, ◌+◌, List, ◌++◌, length, take, drop}

-- a buffer with the bytes bs from `at` on, and else as it was
unfoldable pub splice : List ℕ → ℕ → List ℕ → List ℕ
splice out at bs = take at out ++ (bs ++ drop (at + length bs) out)
