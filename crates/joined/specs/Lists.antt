-- Joined lists: the bytes of several lists, one after the other, and the lists' lengths (paper 02, L9). Assumes nothing.
use Rattle.std.specs.Prelude.{ℕ, ◌+◌, List, [], ◌∷◌, take, drop}

-- the lengths added up, as a number of mathematics
unfoldable pub total : List ℕ → ℕ
total [] = 0
total (n ∷ lengths) = n + total lengths

-- the lists that joined bytes hold, by their lengths
unfoldable pub parts : List ℕ → List ℕ → List (List ℕ)
parts [] bs = []
parts (n ∷ lengths) bs = take n bs ∷ parts lengths (drop n bs)
