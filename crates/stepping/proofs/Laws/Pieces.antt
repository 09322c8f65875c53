-- The piece of a run, and what is left of it behind its first bytes. Assumes nothing.
use Prim.Native.Nat.{ℕ, suc, ◌+◌, ◌-◌, ◌<◌}
use native.Mathlib.Omega.{arith}
use mathlib.Core.Path.{◌≡◌, refl, sym, ap}
use mathlib.Core.Bool.{true}
use lib.Dec.{eqb}
use borrow.Author.Tests.{eqb-true}
use Rattle.codec.proofs.Laws.Bools.{and_both}
use Rattle.runs.specs.Inner.{Unbroken}
use Rattle.runs.specs.Runs.{Run, IsRun}
use Rattle.runs.proofs.Laws.Walk.{value_at}
use Rattle.plans.specs.Location.{Site, next_location, next_site, onward}
use Rattle.plans.specs.Piece.{piece_of}
use Rattle.plans.proofs.Laws.Locations.{onward-zero, next_location_is}
use Rattle.stepping.specs.Step.{piece_in, rest_of}
use Rattle.plans.specs.declared.Location.{Location}
use Rattle.plans.specs.declared.Location.TheVariants.{Hole, In}

-- ---- its place and its length

place_of : (index from n : ℕ) (a : Location) → (piece_of index from n a).place ≡ from
unfolding piece_of
place_of index from n Hole = refl
place_of index from n (In i b l t) = refl

pub len_of : (index from n : ℕ) (a : Location) → (piece_of index from n a).len ≡ n
unfolding piece_of
len_of index from n Hole = refl
len_of index from n (In i b l t) = refl

pub piece_place : (r : Run Site) → (piece_in r).place ≡ r.start
unfolding piece_in
piece_place r = place_of r.first.index r.start r.len r.first.location

pub piece_len : (r : Run Site) → (piece_in r).len ≡ r.len
unfolding piece_in
piece_len r = len_of r.first.index r.start r.len r.first.location

-- ---- where the bytes of a run lie

-- the site k bytes on in one run
abbrev onward_site : Site → ℕ → Site
onward_site s k = record { index = s.index; location = onward s.location k }

site_zero : (s : Site) → s ≡ onward_site s 0
site_zero s = ap (λ (a : Location). record { index = s.index; location = a }) (onward-zero s.location)

next_site_is : (a b : Site) (k : ℕ) → next_site (onward_site a k) b ≡ true → b ≡ onward_site a (suc k)
unfolding next_site
next_site_is a b k h =
    let t = and_both (eqb a.index b.index) (next_location (onward a.location k) b.location) h in
    let i = eqb-true a.index b.index t.0 in
    let l = next_location_is a.location b.location k t.1 in
    λ x. record { index = sym i x; location = l x }

module _ (f : ℕ → Site) (at : ℕ) (r : Run Site) (v : IsRun next_site f at r) where
  unbroken : Unbroken next_site f at (at + r.len) (at + r.len)
  unbroken = record { some = omega (arith, v.some); inside = omega arith; joins = v.inside }

  -- each byte of the run lies behind its first
  run_site : (k : ℕ) → k < r.len → f (at + k) ≡ onward_site (f at) k
  run_site k l = value_at next_site onward_site site_zero next_site_is f at (at + r.len) (at + r.len) unbroken k (omega arith)

  -- ---- the rest

  rest_of_lem : (index from n d : ℕ) (a : Location) → piece_of index (from + d) (n - d) (onward a d) ≡ rest_of (piece_of index from n a) d
  unfolding piece_of rest_of onward
  rest_of_lem index from n d Hole = refl
  rest_of_lem index from n d (In i b l t) = refl

  -- "A place inside a piece gives the rest of it"
  pub rest_is : (d : ℕ) → d < r.len → piece_in (record { start = at + d; len = r.len - d; first = f (at + d) }) ≡ rest_of (piece_in r) d
  unfolding piece_in
  rest_is d l = rw (run_site d l, ← v.first_is, ← v.starts) (rest_of_lem r.first.index r.start r.len d r.first.location)
