-- Plans "cut and ordered as they like" (paper 02, L10). Assumes nothing.
use Rattle.std.specs.Prelude.{ℕ, ◌+◌, ◌<◌, ◌≡◌, List, [], ◌∷◌, ◌++◌}
use Rattle.codec.specs.All.{All}
use Rattle.runs.specs.Runs.{Run}
use Rattle.joined.specs.Lists.{total}
use Rattle.plans.specs.Location.{Site, onward}

-- of a piece, n bytes from its byte d on
unfoldable pub stretch : Run Site → (d n : ℕ) → Run Site
stretch r d n = record { start = r.start + d; len = n; first = record { index = r.first.index; location = onward r.first.location d } }

-- stretches of these lengths, one behind the other from byte d on
unfoldable pub stretches : Run Site → (d : ℕ) → List ℕ → List (Run Site)
stretches r d [] = []
stretches r d (n ∷ ns) = stretch r d n ∷ stretches r (d + n) ns

-- lengths into which a piece can be cut: none is 0, and they add up to its own
pub record Cut (r : Run Site) (ns : List ℕ) : Type 0 where
  pub some : All (λ (n : ℕ). 0 < n) ns
  pub all : total ns ≡ r.len

-- each piece of a plan cut, or left whole
pub data CutUp : List (Run Site) → List (Run Site) → Type 0 where
  nothing : CutUp [] []
  next : {rs xs : List (Run Site)} (r : Run Site) (ns : List ℕ) → Cut r ns → CutUp rs xs → CutUp (r ∷ rs) (stretches r 0 ns ++ xs)

-- another order: neighbours change places, any number of times
pub data Reordered (xs : List (Run Site)) : List (Run Site) → Type 0 where
  unchanged : Reordered xs xs
  once_more : (before after : List (Run Site)) (r s : Run Site) → Reordered xs (before ++ (r ∷ s ∷ after)) → Reordered xs (before ++ (s ∷ r ∷ after))
