-- Inner: what the steps of a walk over the positions find. It serves the contracts of inner functions alone. Assumes nothing.
use Rattle.std.specs.Prelude.{ℕ, suc, ◌-◌, ◌<◌, ◌≤◌, ◌≡◌, Bool, true, ◌∷◌}
use Rattle.runs.specs.Runs.{Run, runs}

-- of a function on positions, where `next a b` says that b continues a
module _ {A : Type 0} (next : A → A → Bool) (f : ℕ → A) where
  -- from p up to e, which is no further than `end`, it goes on
  pub record Unbroken (p end e : ℕ) : Type 0 where
    pub some : p < e
    pub inside : e ≤ end
    pub joins : (q : ℕ) → p ≤ q → suc q < e → next (f q) (f (suc q)) ≡ true

  -- of its maximal runs from p up to `end`, the first starts with the value a and ends before e
  pub record Leads (p end : ℕ) (a : A) (e : ℕ) : Type 0 where
    pub some : p < e
    pub inside : e ≤ end
    pub splits : runs next f p (end - p) ≡ record { start = p; len = e - p; first = a } ∷ runs next f e (end - e)

-- a run with all its positions lower by `by`
unfoldable pub earlier : {A : Type 0} → ℕ → Run A → Run A
earlier by r = record { start = r.start - by; len = r.len; first = r.first }
