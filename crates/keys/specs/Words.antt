-- The fixed words of chunk keys, as ASCII bytes. Assumes nothing.
use Rattle.std.specs.Prelude.{ℕ, List, [], ◌∷◌}

-- `c`
abbrev pub small_c : List ℕ
small_c = 99 ∷ []

-- `A`
abbrev pub capital_a : List ℕ
capital_a = 65 ∷ []

-- `C`
abbrev pub capital_c : List ℕ
capital_c = 67 ∷ []
