-- The fixed word of object names, as ASCII bytes. Assumes nothing.
use Rattle.std.specs.Prelude.{ℕ, List, [], ◌∷◌}

-- `chunks/`
abbrev pub chunks : List ℕ
chunks = 99 ∷ 104 ∷ 117 ∷ 110 ∷ 107 ∷ 115 ∷ 47 ∷ []
