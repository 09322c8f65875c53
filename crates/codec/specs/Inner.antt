-- Inner: what a step of the code leaves. It serves the contracts of inner functions alone. Assumes nothing.
use Rattle.std.specs.Prelude.{ℕ, ◌+◌, ◌≤◌, ◌≡◌, List, length}
use Rattle.codec.specs.Splice.{splice}

-- bs, at most `room` bytes, are put into a buffer from `at` on, and end at `end`
pub record Puts (out : List ℕ) (at : ℕ) (bs : List ℕ) (room : ℕ) (end : ℕ) (after : List ℕ) : Type 0 where
  pub leaves : after ≡ splice out at bs
  pub ends : end ≡ at + length bs
  pub fits : length bs ≤ room
