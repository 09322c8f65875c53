-- Inner: two digits at a time. It serves the contracts of inner functions alone. Assumes nothing.
use Rattle.std.specs.Prelude.{ℕ, ◌+◌, ◌*◌, ◌/◌, ◌%◌, ◌<◌, ◌≡◌, List, [], ◌∷◌, ◌++◌, length, get_or}

-- the two ASCII digits of a number below 100, a zero in front included
abbrev pub pair : ℕ → List ℕ
pair n = (48 + n / 10) ∷ (48 + n % 10) ∷ []

-- the four digits of a number below 10,000
abbrev pub four : ℕ → List ℕ
four n = pair (n / 100) ++ pair (n % 100)

-- a table of the pairs of all numbers below 100
pub record PairTable (table : List ℕ) : Type 0 where
  pub whole : length table ≡ 200
  pub tens : (n : ℕ) → n < 100 → get_or table (2 * n) 0 ≡ 48 + n / 10
  pub ones : (n : ℕ) → n < 100 → get_or table (2 * n + 1) 0 ≡ 48 + n % 10
