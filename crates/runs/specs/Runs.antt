-- The maximal runs of a function on positions, for values of any kind. `next a b` says that b continues a at the position after it.
-- First what a division into maximal runs is, then `runs`, which computes it: proofs/Laws/Runs.antt shows that it is one, and the only one.
-- Assumes nothing.
use Prim.Native.Nat.{ℕ, zero, suc, ◌+◌, ◌<◌, ◌≤◌}
use Rattle.std.specs.Prelude.{◌≡◌, Bool, true, false, cond}
use mathlib.Core.List.{List, [], ◌∷◌}

-- a run: its first position, how many positions it has, and the value at the first
pub record Run (A : Type 0) : Type 0 where
  pub start : ℕ
  pub len : ℕ
  pub first : A

module _ {A : Type 0} (next : A → A → Bool) where
  -- ---- what they are

  -- the position after p goes on with p's run, or it does not
  abbrev pub Joins : (ℕ → A) → ℕ → Type 0
  Joins f p = next (f p) (f (suc p)) ≡ true

  abbrev pub Parts : (ℕ → A) → ℕ → Type 0
  Parts f p = next (f p) (f (suc p)) ≡ false

  -- r is a run of f that starts at `at`
  pub record IsRun (f : ℕ → A) (at : ℕ) (r : Run A) : Type 0 where
    pub starts : r.start ≡ at
    pub some : 0 < r.len
    pub first_is : r.first ≡ f at
    pub inside : (p : ℕ) → at ≤ p → suc p < at + r.len → Joins f p

  -- a run whose positions end at e goes no further
  abbrev pub Stops : (ℕ → A) → ℕ → ℕ → Type 0
  Stops f e end = (p : ℕ) → suc p ≡ e → e < end → Parts f p

  -- rs are the maximal runs of f from `at` up to `end`
  abbrev pub Valid : (ℕ → A) → ℕ → ℕ → List (Run A) → Type 0
  Valid f at end [] = at ≡ end
  Valid f at end (r ∷ rs) = IsRun f at r × Stops f (at + r.len) end × Valid f (at + r.len) end rs

  -- ---- computed

  -- the value a at one more position in front of a list of runs
  unfoldable pub join : ℕ → A → List (Run A) → List (Run A)
  join at a [] = record { start = at; len = 1; first = a } ∷ []
  join at a (r ∷ rs) =
      cond (next a r.first) (record { start = at; len = suc r.len; first = a } ∷ rs)
      (record { start = at; len = 1; first = a } ∷ r ∷ rs)

  -- the maximal runs of f over the n positions from `at`
  unfoldable pub runs : (ℕ → A) → ℕ → ℕ → List (Run A)
  unfolding join
  runs f at zero = []
  runs f at (suc n) = join at (f at) (runs f (suc at) n)
