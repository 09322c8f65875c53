-- Where bytes lie, and how far locations go on. Assumes nothing.
use Prim.Native.Nat.{ℕ, suc, ◌+◌, ◌-◌, ◌*◌, ◌/◌, ◌%◌, ◌≤◌, ◌<◌, min}
use native.Mathlib.Omega.{arith}
use native.Mathlib.Nat.{add-zero, div-add-mod'}
use mathlib.Core.Path.{◌≡◌, refl, sym, ap, ◌∙◌}
use mathlib.Core.Logic.{◌≢◌}
use mathlib.Core.Bool.{Bool, true, false, ◌&&◌, false≢true}
use mathlib.Core.List.{List}
use lib.Arith.{digits_div, digits_mod}
use lib.Dec.{eqb}
use borrow.Author.Tests.{eqb-true, eq-eqb}
use Rattle.codec.specs.All.{All}
use Rattle.slices.specs.Cover.{cover}
use Rattle.slices.specs.Passes.{Passes}
use Rattle.blocks.specs.Blocks.{block_length}
use Rattle.views.specs.View.{next}
use Rattle.views.specs.Inner.{shift}
use Rattle.runs.specs.Inner.{Unbroken}
use Rattle.views.proofs.Laws.Next.{shift_zero, next_is}
use Rattle.codec.proofs.Laws.Bools.{and_both}
use Rattle.slices.proofs.Laws.Sources.{Real, cover_real}
use Rattle.resolve.proofs.Laws.Tops.{id_of}
use Rattle.runs.proofs.Laws.Walk.{value_at}
use Rattle.plans.specs.Location.{location, location_at, next_location, onward}
use Rattle.plans.specs.Inner.{Inside, InBlock}
use Rattle.slices.specs.declared.Record.{Record}
use Rattle.slices.specs.declared.Source.{Source}
use Rattle.slices.specs.declared.Source.TheVariants.{Nothing, Zero, Byte}
use Rattle.plans.specs.declared.Location.{Location}
use Rattle.plans.specs.declared.Location.TheVariants.{Hole, In}

-- ---- one object for two sizes

-- a byte of a block that is whole in two sizes of its slice lies in one object: a plan joins what a view parts
pub sizes_share : (B i s t o : ℕ) → o / B * B + B ≤ s → o / B * B + B ≤ t → location B (Byte i s o) ≡ location B (Byte i t o)
unfolding location block_length
sizes_share B i s t o h k =
    let e : min B (s - o / B * B) ≡ min B (t - o / B * B) = omega arith in
    rw e

-- ---- what has no object

pub location_hole : (B : ℕ) (s : Source) → ((i z o : ℕ) → s ≡ Byte i z o → ⊥) → location B s ≡ Hole
unfolding location
location_hole B Nothing h = refl
location_hole B Zero h = refl
location_hole B (Byte i z o) h = absurd (h i z o refl)

-- the same where its id says so
pub id_hole : (B : ℕ) (s : Source) → Real s → id_of s ≡ 0 → location B s ≡ Hole
unfolding location id_of
id_hole B Nothing h e = refl
id_hole B Zero h e = refl
id_hole B (Byte i z o) h e = absurd (h.0 e)

pub block_hole : (B : ℕ) (s : Source) (d : ℕ) → Real s → id_of s ≡ 0 → 0 < d → InBlock B s d d
unfolding location onward shift id_of
block_hole B Nothing d h e l = record { some = l; most = omega arith; onwards = λ k a. refl }
block_hole B Zero d h e l = record { some = l; most = omega arith; onwards = λ k a. refl }
block_hole B (Byte i z o) d h e l = absurd (h.0 e)

-- ---- a byte of a slice

module _ (B i z o : ℕ) where
  -- in the last block of its slice, or in a full one
  pub location_short : z - o / B * B < B → location B (Byte i z o) ≡ In i (o / B) (z - o / B * B) (o % B)
  unfolding location block_length
  location_short h =
      let e : min B (z - o / B * B) ≡ z - o / B * B = omega arith in
      rw e

  pub location_full : B ≤ z - o / B * B → location B (Byte i z o) ≡ In i (o / B) B (o % B)
  unfolding location block_length
  location_full h =
      let e : min B (z - o / B * B) ≡ B = omega arith in
      rw e

  -- in one block, the locations of a slice's bytes follow one another
  pub block_byte : (d r : ℕ) → 0 < r → r ≤ d → r ≤ B - o % B → InBlock B (Byte i z o) d r
  unfolding location onward shift
  block_byte d r h l m = record { some = h; most = l; onwards = go }
    where
      go : (k : ℕ) → k < r → location B (Byte i z (o + k)) ≡ onward (location B (Byte i z o)) k
      go k a =
          let b : o % B + k < B = omega arith in
          let e : o + k ≡ o / B * B + (o % B + k) = omega (arith, div-add-mod' o B) in
          let q : (o + k) / B ≡ o / B = ap (λ (x : ℕ). x / B) e ∙ digits_div (o / B) b in
          let w : (o + k) % B ≡ o % B + k = ap (λ (x : ℕ). x % B) e ∙ digits_mod (o / B) b in
          rw (q, w)

-- ---- the sources of a list whose records pass

real_inside : (s : Source) → Real s → Inside s
real_inside Nothing h = tt
real_inside Zero h = tt
real_inside (Byte i s o) h = h.2

pub cover_inside : (rs : List Record) → All Passes rs → (p : ℕ) → Inside (cover rs p)
cover_inside rs h p = real_inside (cover rs p) (cover_real rs h p)

-- the location of the cover's source
pub location_is : (B : ℕ) (rs : List Record) (p : ℕ) {s : Source} {a : Location} → s ≡ cover rs p → a ≡ location B s → a ≡ location_at B rs p
unfolding location_at
location_is B rs p h k = k ∙ ap (location B) h

-- ---- the locations inside a run

pub onward-zero : (a : Location) → a ≡ onward a 0
unfolding onward
onward-zero Hole = refl
onward-zero (In i b l a) = rw add-zero

next_onward : (a : Location) (k : ℕ) → next_location (onward a k) (onward a (suc k)) ≡ true
unfolding next_location onward
next_onward Hole k = refl
next_onward (In i b l a) k = rw (eq-eqb i i refl, eq-eqb b b refl, eq-eqb l l refl, eq-eqb (a + suc k) (a + k + 1) (omega arith))

pub next_location_is : (a b : Location) (k : ℕ) → next_location (onward a k) b ≡ true → b ≡ onward a (suc k)
unfolding next_location onward
next_location_is Hole Hole k h = refl
next_location_is Hole (In j c m t) k h = absurd (false≢true h)
next_location_is (In i b l a) Hole k h = absurd (false≢true h)
next_location_is (In i b l a) (In j c m t) k h =
    let x = and_both (eqb i j) (eqb b c && (eqb l m && eqb t (a + k + 1))) h in
    let y = and_both (eqb b c) (eqb l m && eqb t (a + k + 1)) x.1 in
    let z = and_both (eqb l m) (eqb t (a + k + 1)) y.1 in
    let e₁ : i ≡ j = eqb-true i j x.0 in
    let e₂ : b ≡ c = eqb-true b c y.0 in
    let e₃ : l ≡ m = eqb-true l m z.0 in
    let e₄ : t ≡ a + suc k = omega (arith, eqb-true t (a + k + 1) z.1) in
    cc

-- whether a hole goes on with a run
pub next_hole : (a : Location) (k : ℕ) → next_location (onward a k) Hole ≡ next_location a Hole
unfolding next_location onward
next_hole Hole k = refl
next_hole (In i b l a) k = refl

-- where the cover goes on, the locations do up to the end of the block
pub locations_on : (B : ℕ) (rs : List Record) (p end e r : ℕ) (s : Source) → Unbroken next (cover rs) p end e → s ≡ cover rs p → InBlock B s (e - p) r
    → Unbroken next_location (location_at B rs) p end (p + r)
unfolding location_at
locations_on B rs p end e r s u h b = record { some = omega (arith, b.some); inside = omega (arith, b.most, u.inside, u.some); joins = go }
  where
    at : (k : ℕ) → k < r → location B (cover rs (p + k)) ≡ onward (location B s) k
    at k l = ap (location B) (value_at next shift shift_zero next_is (cover rs) p end e u k (omega (arith, b.most, u.some))) ∙ rw (← h) (b.onwards k l)

    go : (q : ℕ) → p ≤ q → suc q < p + r → next_location (location B (cover rs q)) (location B (cover rs (suc q))) ≡ true
    go q l m =
        let x : p + (q - p) ≡ q = omega arith in
        let y : p + suc (q - p) ≡ suc q = omega arith in
        let f = at (q - p) (omega arith) in
        let g = at (suc (q - p)) (omega arith) in
        rw (rw x at f, rw y at g) (next_onward (location B s) (q - p))

-- ---- by the ids alone

next_ids : (B : ℕ) (s t : Source) (k : ℕ) → next_location (onward (location B s) k) (location B t) ≡ true → id_of s ≡ id_of t
unfolding next_location onward location id_of
next_ids B Nothing Nothing k h = refl
next_ids B Nothing Zero k h = refl
next_ids B Nothing (Byte j u q) k h = absurd (false≢true h)
next_ids B Zero Nothing k h = refl
next_ids B Zero Zero k h = refl
next_ids B Zero (Byte j u q) k h = absurd (false≢true h)
next_ids B (Byte i z o) Nothing k h = absurd (false≢true h)
next_ids B (Byte i z o) Zero k h = absurd (false≢true h)
next_ids B (Byte i z o) (Byte j u q) k h = eqb-true i j (and_both (eqb i j) _ h).0

-- different ids part
pub ids_part : (B : ℕ) (s t : Source) (k : ℕ) → id_of t ≢ id_of s → next_location (onward (location B s) k) (location B t) ≡ false
ids_part B s t k n = go (next_location (onward (location B s) k) (location B t)) refl
  where
    go : (x : Bool) → next_location (onward (location B s) k) (location B t) ≡ x → x ≡ false
    go true h = absurd (n (sym (next_ids B s t k h)))
    go false h = refl

-- no ids join
pub ids_none : (B : ℕ) (s t : Source) (k : ℕ) → Real s → Real t → id_of s ≡ 0 → id_of t ≡ 0 → next_location (onward (location B s) k) (location B t) ≡ true
unfolding next_location onward
ids_none B s t k h g a b = rw (id_hole B s h a, id_hole B t g b)

-- ---- where a block begins

pub blocks_part : (B i z o o' : ℕ) → 0 < B → o' ≡ suc o → o' % B ≡ 0 → next_location (location B (Byte i z o)) (location B (Byte i z o')) ≡ false
unfolding next_location location
blocks_part B i z o o' some e h = go (next_location (location B (Byte i z o)) (location B (Byte i z o'))) refl
  where
    go : (x : Bool) → next_location (location B (Byte i z o)) (location B (Byte i z o')) ≡ x → x ≡ false
    go false k = refl
    go true k =
        let x = (and_both (eqb i i) _ k).1 in
        let y = eqb-true (o / B) (o' / B) (and_both (eqb (o / B) (o' / B)) _ x).0 in
        absurd (omega (arith, div-add-mod' o B, div-add-mod' o' B, ap (λ (q : ℕ). q * B) y))
