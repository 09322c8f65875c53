-- Elements that take the same number of bytes each, one after the other. proofs/Laws/Groups.antt has their laws. Assumes nothing.
use Rattle.std.specs.Prelude.{ℕ, zero, suc, ◌*◌, ◌/◌, List, [], ◌∷◌, length}

module _ {A : Type 0} where
  -- n elements of `width` bytes each, from element i on; `decode bs at` is the element whose bytes start at `at`
  unfoldable pub groups_from : (decode : List ℕ → ℕ → A) (width : ℕ) → List ℕ → ℕ → ℕ → List A
  groups_from decode width bs i zero = []
  groups_from decode width bs i (suc n) = decode bs (i * width) ∷ groups_from decode width bs (suc i) n

  -- all whole elements
  unfoldable pub groups : (decode : List ℕ → ℕ → A) (width : ℕ) → List ℕ → List A
  groups decode width bs = groups_from decode width bs 0 (length bs / width)
