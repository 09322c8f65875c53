-- The fixed words that names and keys share, as ASCII bytes. Assumes nothing.
use Rattle.std.specs.Prelude.{ℕ, List, [], ◌∷◌}

-- `/`
abbrev pub slash : List ℕ
slash = 47 ∷ []

-- `_`
abbrev pub underscore : List ℕ
underscore = 95 ∷ []
