-- Laws of maximal runs, for any `next`. `Valid next f at end rs` says what the runs of f from `at` up to `end` are, each by itself and
-- without computing them: `runs` is valid, and nothing else is. Assumes nothing.
use Prim.Native.Nat.{ℕ, zero, suc, pred, ◌+◌, ◌-◌, ◌<◌, ◌≤◌}
use native.Mathlib.Omega.{arith}
use native.Mathlib.Nat.{add-suc, suc-add, eq-or-lt_of_le}
use native.Mathlib.Numerals.{add-one}
use mathlib.Core.Logic.{⊎_elim}
use mathlib.Core.Bool.{Bool, true, false, cond}
use mathlib.Core.Path.{◌≡◌, refl, sym, ap, ◌∙◌}
use mathlib.Core.List.{List, [], ◌∷◌, ◌++◌, map}
use Rattle.runs.specs.Inner.{earlier}
use Rattle.runs.specs.Runs.{Run, Joins, Parts, IsRun, Valid, join, runs}

module _ {A : Type 0} (next : A → A → Bool) where
  -- equal functions have equal runs; only the values inside the range count
  pub runs_cong : (f g : ℕ → A) (at n : ℕ) → ((p : ℕ) → at ≤ p → p < at + n → f p ≡ g p) → runs next f at n ≡ runs next g at n
  unfolding runs
  runs_cong f g at zero h = refl
  runs_cong f g at (suc n) h =
      let e : f at ≡ g at = h at (omega arith) (omega arith) in
      let t : runs next f (suc at) n ≡ runs next g (suc at) n = runs_cong f g (suc at) n (λ p a b. h p (omega arith) (omega arith)) in
      cc

  -- ---- one run in front

  -- whatever stands behind it, a position that is put in front is the first of the first run
  pub join_shape : (at : ℕ) (x : A) (rs : List (Run A)) → (n : ℕ) × (t : List (Run A)) × (join next at x rs ≡ record { start = at; len = n; first = x } ∷ t)
  unfolding join
  join_shape at x [] = (1, [], refl)
  join_shape at x (r ∷ rs) = go (next x r.first)
    where
      go : (b : Bool) → (n : ℕ) × (t : List (Run A))
          × (cond b (record { start = at; len = suc r.len; first = x } ∷ rs) (record { start = at; len = 1; first = x } ∷ r ∷ rs)
          ≡ record { start = at; len = n; first = x } ∷ t)
      go true = (suc r.len, rs, refl)
      go false = (1, r ∷ rs, refl)

  join_apart : (at b : ℕ) (x y : A) (rs : List (Run A)) → next x y ≡ false
      → join next at x (join next b y rs) ≡ record { start = at; len = 1; first = x } ∷ join next b y rs
  unfolding join
  join_apart at b x y rs e = rw ((join_shape b y rs).2, e)

  -- the k + 1 positions from `at` up to `e` are one run, and the m positions from e on do not continue it
  pub runs-cons : (f : ℕ → A) (at k n e m : ℕ) → e ≡ suc (at + k) → n ≡ k + m
      → ((p : ℕ) → at ≤ p → suc p < e → Joins next f p) → ((p : ℕ) → suc p ≡ e → 0 < m → Parts next f p)
      → runs next f at (suc n) ≡ record { start = at; len = suc k; first = f at } ∷ runs next f e m
  unfolding runs
  runs-cons f at zero n e zero he hn inside stops =
      let q : n ≡ 0 = omega arith in
      rw q
  runs-cons f at zero n e (suc m) he hn inside stops =
      let q : n ≡ suc m = omega arith in
      let s : e ≡ suc at = omega arith in
      rw (q, s) (join_apart at (suc at) (f at) (f (suc at)) (runs next f (suc (suc at)) m) (stops at (omega arith) (omega arith)))
  runs-cons f at (suc k) zero e m he hn inside stops = absurd (omega arith)
  runs-cons f at (suc k) (suc n) e m he hn inside stops =
      rw (runs-cons f (suc at) k n e m (omega arith) (omega arith) (λ p a b. inside p (omega arith) b) stops, inside at (omega arith) (omega arith))

  -- ---- `runs` is valid

  join_valid : (f : ℕ → A) (at end : ℕ) (rs : List (Run A)) → Valid next f (suc at) end rs → Valid next f at end (join next at (f at) rs)
  unfolding join
  join_valid f at end [] v =
      (record { starts = refl; some = omega arith; first_is = refl; inside = λ p a b. absurd (omega arith) }, (λ p a b. absurd (omega arith)), omega arith)
  join_valid f at end (r ∷ rs) v = go (next (f at) r.first) refl
    where
      go : (t : Bool) → next (f at) r.first ≡ t
          → Valid next f at end (cond t (record { start = at; len = suc r.len; first = f at } ∷ rs) (record { start = at; len = 1; first = f at } ∷ r ∷ rs))
      go true e = (
        record {
          starts = refl;
          some = omega arith;
          first_is = refl;
          inside = λ p a b. ⊎_elim (λ q. rw (← q, ← v.0.first_is) e) (λ l. v.0.inside p l (omega arith)) (eq-or-lt_of_le a);
        },
        (λ p a b. v.1 p (omega arith) (omega arith)),
        rw (add-suc, ← suc-add) v.2,
      )
      go false e = (
        record { starts = refl; some = omega arith; first_is = refl; inside = λ p a b. absurd (omega arith) },
        (λ p a b. let q : p ≡ at = omega arith in rw (q, ← v.0.first_is) e),
        rw add-one v,
      )

  pub runs_valid : (f : ℕ → A) (at n end : ℕ) → at + n ≡ end → Valid next f at end (runs next f at n)
  unfolding runs
  runs_valid f at zero end h = omega arith
  runs_valid f at (suc n) end h = join_valid f at end (runs next f (suc at) n) (runs_valid f (suc at) n end (omega arith))

  -- ---- what is valid is `runs`

  pub valid_le : (f : ℕ → A) (at end : ℕ) (rs : List (Run A)) → Valid next f at end rs → at ≤ end
  valid_le f at end [] v = omega arith
  valid_le f at end (r ∷ rs) v = omega (arith, valid_le f (at + r.len) end rs v.2)

  -- a run of k + 1 positions, by its fields
  run_is : (f : ℕ → A) (at k : ℕ) (r : Run A) → IsRun next f at r → r.len ≡ suc k → r ≡ record { start = at; len = suc k; first = f at }
  run_is f at k r v l = λ i. record { start = v.starts i; len = l i; first = v.first_is i }

  pub valid_unique : (f : ℕ → A) (at n end : ℕ) → at + n ≡ end → (rs : List (Run A)) → Valid next f at end rs → rs ≡ runs next f at n
  unfolding runs
  valid_unique f at n end h [] v =
      let q : n ≡ 0 = omega arith in
      rw q
  valid_unique f at n end h (r ∷ rs) v =
      let e = at + r.len in
      let m = end - e in
      let l : e ≤ end = valid_le f e end rs v.2 in
      let q : n ≡ suc (pred n) = omega arith in
      let first = run_is f at (pred r.len) r v.0 (omega arith) in
      let rest = valid_unique f e m end (omega arith) rs v.2 in
      let both = runs-cons f at (pred r.len) (pred n) e m (omega arith) (omega arith) v.0.inside (λ p a b. v.1 p a (omega arith)) in
      cc

  -- ---- more positions at the end

  valid_append : (f : ℕ → A) (at mid end : ℕ) (xs ys : List (Run A)) → ((p : ℕ) → at ≤ p → suc p ≡ mid → Parts next f p)
      → Valid next f at mid xs → Valid next f mid end ys → Valid next f at end (xs ++ ys)
  valid_append f at mid end [] ys apart v w = rw v w
  valid_append f at mid end (r ∷ xs) ys apart v w = (
    v.0,
    (λ p a b.
        ⊎_elim (λ (q : at + r.len ≡ mid). apart p (omega arith) (omega arith)) (λ (l : at + r.len < mid). v.1 p a l)
        (eq-or-lt_of_le (valid_le f (at + r.len) mid xs v.2))),
    valid_append f (at + r.len) mid end xs ys (λ p a. apart p (omega arith)) v.2 w,
  )

  -- where the runs before and after a position do not join, they stand one after the other
  pub runs_append : (f : ℕ → A) (at n m : ℕ) → ((p : ℕ) → at ≤ p → suc p ≡ at + n → Parts next f p)
      → runs next f at (n + m) ≡ runs next f at n ++ runs next f (at + n) m
  runs_append f at n m apart =
      sym
      (valid_unique f at (n + m) (at + n + m) (omega arith) (runs next f at n ++ runs next f (at + n) m)
      (valid_append f at (at + n) (at + n + m) (runs next f at n) (runs next f (at + n) m) apart
      (runs_valid f at n (at + n) refl) (runs_valid f (at + n) m (at + n + m) refl)))

-- ---- positions counted from elsewhere

module _ {A : Type 0} (next : A → A → Bool) (by : ℕ) where
  earlier_join : (at : ℕ) (a : A) (rs : List (Run A)) → join next at a (map (earlier by) rs) ≡ map (earlier by) (join next (by + at) a rs)
  unfolding join earlier
  earlier_join at a [] = let e : by + at - by ≡ at = omega arith in rw e
  earlier_join at a (r ∷ rs) = go (next a r.first)
    where
      go : (t : Bool)
          → cond t (record { start = at; len = suc r.len; first = a } ∷ map (earlier by) rs) (record { start = at; len = 1; first = a } ∷ earlier by r ∷ map (earlier by) rs)
          ≡ map (earlier by) (cond t (record { start = by + at; len = suc r.len; first = a } ∷ rs) (record { start = by + at; len = 1; first = a } ∷ r ∷ rs))
      go true = let e : by + at - by ≡ at = omega arith in rw e
      go false = let e : by + at - by ≡ at = omega arith in rw e

  pub runs_earlier : (f : ℕ → A) (at n : ℕ) → runs next (λ i. f (by + i)) at n ≡ map (earlier by) (runs next f (by + at) n)
  unfolding runs
  runs_earlier f at zero = refl
  runs_earlier f at (suc n) =
      let e : runs next (λ i. f (by + i)) (suc at) n ≡ map (earlier by) (runs next f (suc (by + at)) n) = rw add-suc at (runs_earlier f (suc at) n) in
      ap (join next at (f (by + at))) e ∙ earlier_join at (f (by + at)) (runs next f (suc (by + at)) n)
