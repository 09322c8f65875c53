-- Neighbouring records that change places (paper 02, L14). No limit on the length of a list. Assumes nothing.
use Rattle.std.specs.Prelude.{ℕ, ◌≡◌, true, false, List, ◌∷◌, ◌++◌}
use Rattle.slices.specs.Cover.{covers}
use Rattle.slices.specs.declared.Record.{Record}

-- two records whose "ranges share no byte"
abbrev pub Apart : Record → Record → Type 0
Apart r s = (p : ℕ) → covers r p ≡ true → covers s p ≡ false

-- two neighbouring records that are apart change places, whatever stands before and after them
pub record Exchange (xs ys : List Record) : Type 0 where
  pub before : List Record
  pub after : List Record
  pub first : Record
  pub second : Record
  pub apart : Apart first second
  pub from : xs ≡ before ++ (first ∷ second ∷ after)
  pub to : ys ≡ before ++ (second ∷ first ∷ after)

-- "any order reached by such exchanges", however many
pub data Exchanged (xs : List Record) : List Record → Type 0 where
  unchanged : Exchanged xs xs
  once_more : {ys zs : List Record} → Exchanged xs ys → Exchange ys zs → Exchanged xs zs
