-- Runs of places that are all of one chunk: they are the runs of its locations. Assumes nothing.
use Prim.Native.Nat.{ℕ, zero, suc, ◌+◌, ◌≤◌, ◌<◌}
use native.Mathlib.Omega.{arith}
use native.Mathlib.Nat.{add-suc}
use mathlib.Core.Path.{◌≡◌, refl}
use mathlib.Core.Bool.{Bool, true, false, cond}
use mathlib.Core.List.{List, [], ◌∷◌, map}
use borrow.Author.Tests.{eq-eqb}
use Rattle.runs.specs.Runs.{Run, join, runs}
use Rattle.plans.specs.Location.{Site, next_location, next_site}
use Rattle.plans.specs.Piece.{in_chunk}
use Rattle.plans.specs.declared.Location.{Location}

module _ (index before : ℕ) where
  abbrev site : Location → Site
  site a = record { index = index; location = a }

  join_in_chunk : (at : ℕ) (a : Location) (rs : List (Run Location))
      → join next_site (before + at) (site a) (map (in_chunk index before) rs) ≡ map (in_chunk index before) (join next_location at a rs)
  unfolding join in_chunk next_site
  join_in_chunk at a [] = refl
  join_in_chunk at a (r ∷ rs) = rw (eq-eqb index index refl) (go (next_location a r.first))
    where
      go : (t : Bool)
          → cond t (record { start = before + at; len = suc r.len; first = site a } ∷ map (in_chunk index before) rs)
          (record { start = before + at; len = 1; first = site a } ∷ in_chunk index before r ∷ map (in_chunk index before) rs)
          ≡ map (in_chunk index before) (cond t (record { start = at; len = suc r.len; first = a } ∷ rs) (record { start = at; len = 1; first = a } ∷ r ∷ rs))
      go true = refl
      go false = refl

  pub runs_in_chunk : (f : ℕ → Site) (g : ℕ → Location) (at n : ℕ) → ((j : ℕ) → at ≤ j → j < at + n → f (before + j) ≡ record { index = index; location = g j })
      → runs next_site f (before + at) n ≡ map (in_chunk index before) (runs next_location g at n)
  unfolding runs
  runs_in_chunk f g at zero h = refl
  runs_in_chunk f g at (suc n) h =
      let t = rw add-suc at (runs_in_chunk f g (suc at) n (λ j a b. h j (omega arith) (omega arith))) in
      rw (h at (omega arith) (omega arith), t) (join_in_chunk at (g at) (runs next_location g (suc at) n))
