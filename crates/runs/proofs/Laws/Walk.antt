-- A walk from run to run, for any `next`. `on a k` is the value k positions after a in its run. Assumes nothing.
use Prim.Native.Nat.{ℕ, zero, suc, ◌+◌, ◌-◌, ◌<◌, ◌≤◌}
use native.Mathlib.Omega.{arith}
use native.Mathlib.Nat.{add-zero, add-suc}
use native.Mathlib.Decide.{dec_lt}
use mathlib.Core.Path.{◌≡◌, sym, ap, ◌∙◌}
use mathlib.Core.Bool.{Bool, true, false}
use Rattle.runs.specs.Inner.{Unbroken, Leads}
use Rattle.runs.specs.Runs.{Joins, Parts, Stops}
use Rattle.runs.proofs.Laws.Runs.{runs-cons}

module _ {A : Type 0} (next : A → A → Bool) (on : A → ℕ → A)
    (on-zero : (a : A) → a ≡ on a 0) (next_is : (a b : A) (k : ℕ) → next (on a k) b ≡ true → b ≡ on a (suc k))
    (f : ℕ → A) (p end e : ℕ) (u : Unbroken next f p end e) where
  -- the first value and the distance tell the others
  pub value_at : (k : ℕ) → p + k < e → f (p + k) ≡ on (f p) k
  value_at zero h = rw add-zero (on-zero (f p))
  value_at (suc k) h = rw add-suc (next_is (f p) (f (suc (p + k))) k (rw (← value_at k (omega arith)) (u.joins (p + k) (omega arith) (omega arith))))

  last_is : (q : ℕ) → suc q ≡ e → f q ≡ on (f p) (e - p - 1)
  last_is q h =
      let k : p + (e - p - 1) ≡ q = omega (arith, u.some) in
      ap f (sym k) ∙ value_at (e - p - 1) (omega (arith, u.some))

  module _ (a b : A) (t : Bool) (ha : a ≡ f p) (hb : b ≡ f e) (ht : t ≡ next (on a (e - p - 1)) b) where
    at_end : (q : ℕ) → suc q ≡ e → next (f q) (f (suc q)) ≡ t
    at_end q h = rw (h, last_is q h, ← ha, ← hb) (sym ht)

    -- the run goes on with what goes on from its end
    pub unbroken_on : t ≡ true → (g : ℕ) → Unbroken next f e end g → Unbroken next f p end g
    unbroken_on h g v = record { some = omega (arith, u.some, v.some); inside = v.inside; joins = go }
      where
        go : (q : ℕ) → p ≤ q → suc q < g → Joins next f q
        go q l m =
            elim (dec_lt (suc q) e) [
              | yes k ↦ u.joins q l k
              | no k ↦ elim (dec_lt q e) [ yes i ↦ at_end q (omega arith) ∙ h | no i ↦ v.joins q (omega arith) m ]
            ]

  first_run : ((q : ℕ) → suc q ≡ e → 0 < end - e → Parts next f q) → Leads next f p end (f p) e
  first_run stops =
      let h = u.some in
      let i = u.inside in
      let k : e - p ≡ suc (e - p - 1) = omega arith in
      let n : end - p ≡ suc (end - p - 1) = omega arith in
      record {
        some = h;
        inside = i;
        splits = rw (k, n) (runs-cons next f p (e - p - 1) (end - p - 1) e (end - e) (omega arith) (omega arith) (λ q a b. u.joins q a b) stops);
      }

  pub leads_stops : Stops next f e end → Leads next f p end (f p) e
  leads_stops s = first_run (λ q h l. s q h (omega arith))

  pub leads_parts : (a b : A) (t : Bool) → a ≡ f p → b ≡ f e → t ≡ next (on a (e - p - 1)) b → t ≡ false → Leads next f p end a e
  leads_parts a b t ha hb ht h = rw ha (first_run (λ q k l. at_end a b t ha hb ht q k ∙ h))

  pub leads_end : (a : A) → a ≡ f p → end ≤ e → Leads next f p end a e
  leads_end a ha h = rw ha (first_run (λ q k l. absurd (omega arith)))
