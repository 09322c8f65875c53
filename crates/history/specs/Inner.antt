-- Inner: what is known of two lists that were compared in part. It serves the contracts of inner functions alone. Assumes nothing.
use Rattle.std.specs.Prelude.{ℕ, ◌≡◌, Bool, ◌&&◌, List, drop}
use Rattle.history.specs.History.{begins}

-- t says whether the lists are the same from i up to j: what is behind j decides the rest
abbrev pub UpTo : List ℕ → List ℕ → ℕ → ℕ → Bool → Type 0
UpTo older newer i j t = begins (drop i older) (drop i newer) ≡ (t && begins (drop j older) (drop j newer))
