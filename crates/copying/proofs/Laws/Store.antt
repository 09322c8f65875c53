-- Setting one byte of a store: it is read back, every other byte stays, and two bytes of one slice never share a location. Assumes nothing.
use Prim.Native.Nat.{ℕ, ◌+◌, ◌*◌, ◌/◌, ◌%◌}
use native.Mathlib.Omega.{arith}
use native.Mathlib.Nat.{div-add-mod'}
use mathlib.Core.Path.{◌≡◌, refl, sym, ◌∙◌}
use mathlib.Core.Bool.{Bool, true, false, cond, ◌&&◌, false≢true}
use lib.Dec.{eqb}
use borrow.Author.Tests.{eqb-true, eq-eqb}
use Rattle.codec.proofs.Laws.Bools.{and_both}
use Rattle.blocks.specs.Blocks.{block_length}
use Rattle.plans.specs.Location.{location}
use Rattle.plans.specs.Store.{Store, fetch}
use Rattle.copying.specs.Copy.{put}
use Rattle.slices.specs.declared.Source.TheVariants.{Byte}
use Rattle.plans.specs.declared.Location.{Location}
use Rattle.plans.specs.declared.Location.TheVariants.{Hole, In}

same_location_lem : (i b l a j c m t : ℕ) → (eqb j i && (eqb c b && (eqb m l && eqb t a))) ≡ true → In j c m t ≡ In i b l a
same_location_lem i b l a j c m t e =
    let e₁ = and_both (eqb j i) (eqb c b && (eqb m l && eqb t a)) e in
    let e₂ = and_both (eqb c b) (eqb m l && eqb t a) e₁.1 in
    let e₃ = and_both (eqb m l) (eqb t a) e₂.1 in
    cc (eqb-true j i e₁.0, eqb-true c b e₂.0, eqb-true m l e₃.0, eqb-true t a e₃.1)

put_same : (i b l a v : ℕ) (st : Store) → fetch (put (In i b l a) v st) (In i b l a) ≡ v
unfolding fetch put
put_same i b l a v st = rw (eq-eqb i i refl, eq-eqb b b refl, eq-eqb l l refl, eq-eqb a a refl)

-- the byte set is read at the location of slice offset o
pub put_at : (B id size o v : ℕ) (st : Store) → fetch (put (location B (Byte id size o)) v st) (location B (Byte id size o)) ≡ v
unfolding location
put_at B id size o v st = put_same id (o / B) (block_length B size (o / B)) (o % B) v st

pub put_other : (q p : Location) (v : ℕ) (st : Store) → ¬ (p ≡ q) → fetch (put q v st) p ≡ fetch st p
unfolding fetch put
put_other Hole p v st ne = refl
put_other (In i b l a) Hole v st ne = refl
put_other (In i b l a) (In j c m t) v st ne = go (eqb j i && (eqb c b && (eqb m l && eqb t a))) refl
  where
    go : (x : Bool) → (eqb j i && (eqb c b && (eqb m l && eqb t a))) ≡ x → cond x v (st j c m t) ≡ st j c m t
    go true e = absurd (ne (same_location_lem i b l a j c m t e))
    go false e = refl

-- two offsets of a slice lie at two locations
pub location_inj : (B id size o u : ℕ) → location B (Byte id size o) ≡ location B (Byte id size u) → o ≡ u
unfolding location
location_inj B id size o u e = cc (div-add-mod' o B, div-add-mod' u B)

-- a location tells the offset of a slice that lies there
pub offset_is : (B id size u i b l a : ℕ) → In i b l a ≡ location B (Byte id size u) → u ≡ b * B + a
unfolding location
offset_is B id size u i b l a e = cc (div-add-mod' u B)

-- whether two locations are one
pub location_dec : (p q : Location) → Dec (p ≡ q)
location_dec Hole Hole = yes refl
location_dec Hole (In i b l a) = no (λ e. let z : ◌≡◌ {A = ℕ} 0 1 = cc in omega arith)
location_dec (In j c m t) Hole = no (λ e. let z : ◌≡◌ {A = ℕ} 0 1 = cc in omega arith)
location_dec (In j c m t) (In i b l a) = go (eqb j i && (eqb c b && (eqb m l && eqb t a))) refl
  where
    go : (x : Bool) → (eqb j i && (eqb c b && (eqb m l && eqb t a))) ≡ x → Dec (In j c m t ≡ In i b l a)
    go true e = yes (same_location_lem i b l a j c m t e)
    go false e = no (λ h. absurd (false≢true (sym e ∙ tested h)))
      where
        tested : In j c m t ≡ In i b l a → (eqb j i && (eqb c b && (eqb m l && eqb t a))) ≡ true
        tested h =
            let k₁ : j ≡ i = cc in
            let k₂ : c ≡ b = cc in
            let k₃ : m ≡ l = cc in
            let k₄ : t ≡ a = cc in
            rw (eq-eqb j i k₁, eq-eqb c b k₂, eq-eqb m l k₃, eq-eqb t a k₄)
