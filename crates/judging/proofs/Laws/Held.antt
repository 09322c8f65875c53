-- How often places are held, piece by piece. Assumes nothing.
use Prim.Native.Nat.{ℕ, suc, ◌+◌}
use native.Mathlib.Omega.{arith}
use mathlib.Core.Path.{◌≡◌}
use mathlib.Core.Bool.{Bool, true, false, cond}
use mathlib.Core.List.{List, [], ◌∷◌, ◌++◌}
use lib.Dec.{ltb}
use Rattle.runs.specs.Runs.{Run}
use Rattle.plans.specs.Location.{Site}
use Rattle.coverage.specs.Held.{holds, holders}
use Rattle.coverage.specs.Inner.{one_if, spans}
use Rattle.coverage.proofs.Laws.Count.{spans_next}

module _ (i : ℕ) where
  -- 1 where place i stands before e
  abbrev pub below : ℕ → ℕ
  below e = one_if (ltb i e)

  pub held_one : (r : Run Site) → below r.start + one_if (holds r i) ≡ below (r.start + r.len)
  unfolding holds spans
  held_one r = spans_next r.start r.len i

  pub holders_one : (r : Run Site) (rs : List (Run Site)) → holders (r ∷ rs) i ≡ one_if (holds r i) + holders rs i
  unfolding holders
  holders_one r rs = go (holds r i)
    where
      go : (t : Bool) → cond t (suc (holders rs i)) (holders rs i) ≡ one_if t + holders rs i
      go true = omega arith
      go false = omega arith

  pub holders-append : (xs ys : List (Run Site)) → holders (xs ++ ys) i ≡ holders xs i + holders ys i
  unfolding holders
  holders-append [] ys = omega arith
  holders-append (x ∷ xs) ys = omega (arith, holders_one x (xs ++ ys), holders_one x xs, holders-append xs ys)
