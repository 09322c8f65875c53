-- The maximal runs of a read are right, and hold each of its bytes once. Assumes nothing.
use Prim.Native.Nat.{ℕ, suc, ◌+◌, ◌<◌, ◌≤◌}
use native.Mathlib.Omega.{arith}
use mathlib.Core.Path.{◌≡◌, sym, ap}
use mathlib.Core.Bool.{true}
use mathlib.Core.List.{List, [], ◌∷◌}
use lib.Dec.{eqb}
use borrow.Author.Tests.{eqb-true, lt-ltb, le-ltb}
use Rattle.codec.specs.All.{All}
use Rattle.codec.proofs.Laws.Bools.{and_both}
use Rattle.runs.specs.Inner.{Unbroken}
use Rattle.runs.specs.Runs.{Run, IsRun, Valid}
use Rattle.runs.proofs.Laws.Runs.{valid_le}
use Rattle.runs.proofs.Laws.Walk.{value_at}
use Rattle.plans.specs.Location.{Site, next_location, next_site, onward}
use Rattle.plans.proofs.Laws.Locations.{onward-zero, next_location_is}
use Rattle.coverage.specs.Held.{holders}
use Rattle.coverage.specs.Inner.{one_if}
use Rattle.judging.proofs.Laws.Held.{below, held_one, holders_one}
use Rattle.judging.proofs.Laws.Right.{onward_site, Right}
use Rattle.plans.specs.declared.Location.{Location}

-- ---- where the bytes of a run lie

site_zero : (s : Site) → s ≡ onward_site s 0
site_zero s = ap (λ (a : Location). record { index = s.index; location = a }) (onward-zero s.location)

next_site_is : (a b : Site) (k : ℕ) → next_site (onward_site a k) b ≡ true → b ≡ onward_site a (suc k)
unfolding next_site
next_site_is a b k h =
    let t = and_both (eqb a.index b.index) (next_location (onward a.location k) b.location) h in
    let i = eqb-true a.index b.index t.0 in
    let l = next_location_is a.location b.location k t.1 in
    λ x. record { index = sym i x; location = l x }

module _ (f : ℕ → Site) (n : ℕ) where
  -- byte j of a run lies j places on from its first
  run_right : (at : ℕ) (r : Run Site) → IsRun next_site f at r → at + r.len ≤ n → Right f n r
  run_right at r v l =
      let s = v.starts in
      let u : Unbroken next_site f at n (at + r.len) = record { some = omega (arith, v.some); inside = l; joins = v.inside } in
      record {
        inside = record { some = v.some; within = omega arith };
        sites = λ j h. rw (s, v.first_is) (sym (value_at next_site onward_site site_zero next_site_is f at n (at + r.len) u j (omega arith)));
      }

  pub runs_right : (at : ℕ) (rs : List (Run Site)) → Valid next_site f at n rs → All (Right f n) rs
  runs_right at [] v = tt
  runs_right at (r ∷ rs) v = (run_right at r v.0 (valid_le next_site f (at + r.len) n rs v.2), runs_right (at + r.len) rs v.2)

  -- ---- how often they hold a place

  runs_held : (i at : ℕ) (rs : List (Run Site)) → Valid next_site f at n rs → below i at + holders rs i ≡ below i n
  unfolding holders
  runs_held i at [] v = rw v (omega arith)
  runs_held i at (r ∷ rs) v =
      let a : below i r.start ≡ below i at = ap (below i) v.0.starts in
      let b : below i (r.start + r.len) ≡ below i (at + r.len) = ap (λ (s : ℕ). below i (s + r.len)) v.0.starts in
      omega (arith, holders_one i r rs, held_one i r, runs_held i (at + r.len) rs v.2)

  pub runs_once : (rs : List (Run Site)) → Valid next_site f 0 n rs → (i : ℕ) → i < n → holders rs i ≡ 1
  runs_once rs v i l = omega (arith, runs_held i 0 rs v, ap one_if (lt-ltb i n l), ap one_if (le-ltb i 0 (omega arith)))
