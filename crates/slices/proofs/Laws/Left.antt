-- A scan of a list's records: `records_left bs i` are those from record i on. Assumes nothing.
use Prim.Native.Nat.{ℕ, zero, suc, ◌+◌, ◌-◌, ◌<◌, ◌≤◌}
use native.Mathlib.Omega.{arith}
use native.Mathlib.Numerals.{add-one}
use mathlib.Core.Path.{◌≡◌, refl}
use mathlib.Core.Bool.{true, false}
use mathlib.Core.Logic.{◌≢◌}
use mathlib.Core.List.{List, [], ◌∷◌}
use lib.Dec.{eqb}
use borrow.Author.Tests.{eq-eqb, ne_eqb}
use Rattle.std.specs.List.{list_any, range_with_len}
use Rattle.codec.specs.Groups.{groups_from}
use Rattle.slices.specs.Record.{record_at, records_from, count, records}
use Rattle.slices.specs.Ids.{stands}
use Rattle.slices.specs.declared.Record.{Record}

module _ (bs : List ℕ) where
  abbrev pub records_left : ℕ → List Record
  records_left i = records_from bs i (count bs - i)

  pub left_all : records_left 0 ≡ records bs
  unfolding records
  left_all = let e : count bs - 0 ≡ count bs = omega arith in rw e

  pub left_none : (i : ℕ) → count bs ≤ i → records_left i ≡ []
  unfolding records_from groups_from
  left_none i h = let e : count bs - i ≡ 0 = omega arith in rw e

  pub left_more : (i : ℕ) → i < count bs → records_left i ≡ record_at bs i ∷ records_left (i + 1)
  unfolding records_from groups_from record_at
  left_more i h =
      let e : count bs - i ≡ suc (count bs - suc i) = omega arith in
      rw (add-one, e)

  -- the record before, when the scan goes backwards
  pub left_back : (i : ℕ) → 0 < i → i ≤ count bs → records_left (i - 1) ≡ record_at bs (i - 1) ∷ records_left i
  left_back i h l =
      let e : i - 1 + 1 ≡ i = omega arith in
      rw e at (left_more (i - 1) (omega arith))

  -- ---- an id

  pub stands_here : (id i : ℕ) → i < count bs → (record_at bs i).id ≡ id → true ≡ stands id (records_left i)
  unfolding stands
  stands_here id i h e = rw (left_more i h, eq-eqb (record_at bs i).id id e)

  pub stands_next : (id i : ℕ) → i < count bs → (record_at bs i).id ≢ id → stands id (records_left i) ≡ stands id (records_left (i + 1))
  unfolding stands
  stands_next id i h e = rw (left_more i h, ne_eqb (record_at bs i).id id e)

  pub stands_none : (id i : ℕ) → count bs ≤ i → false ≡ stands id (records_left i)
  unfolding stands
  stands_none id i h = rw (left_none i h)

  -- as a test of the records' places
  pub stands_any : (id i n : ℕ) → list_any (λ j. eqb (record_at bs j).id id) (range_with_len i n) ≡ stands id (records_from bs i n)
  unfolding stands records_from groups_from record_at
  stands_any id i zero = refl
  stands_any id i (suc n) = rw (add-one, stands_any id (suc i) n)
