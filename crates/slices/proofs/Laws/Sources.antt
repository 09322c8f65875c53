-- What the sources of a list's cover are, where its records pass. Assumes nothing.
use Prim.Native.Nat.{ℕ, ◌+◌, ◌^◌, ◌<◌, ◌≤◌}
use native.Mathlib.Omega.{arith}
use native.Mathlib.Decide.{ℕ_discrete, dec_lt}
use mathlib.Core.Path.{◌≡◌, refl}
use mathlib.Core.Logic.{◌≢◌}
use mathlib.Core.List.{List, [], ◌∷◌}
use Rattle.codec.specs.All.{All}
use Rattle.slices.specs.Limits.{chunk}
use Rattle.slices.specs.Cover.{cover, over, layer, given}
use Rattle.slices.specs.Passes.{Passes}
use Rattle.slices.specs.Record.{Fits}
use Rattle.slices.proofs.Laws.OneSize.{Sized}
use Rattle.slices.proofs.Laws.Cover.{layer_in, layer_before, layer_after, given-zero, given_byte}
use Rattle.slices.specs.declared.Record.{Record}
use Rattle.slices.specs.declared.Source.{Source}
use Rattle.slices.specs.declared.Source.TheVariants.{Nothing, Zero, Byte}

-- a byte inside a slice of at most 64 MiB, with an id other than 0; or no byte
abbrev pub Real : Source → Type 0
Real Nothing = Unit {0}
Real Zero = Unit {0}
Real (Byte i s o) = (i ≢ 0) × (s ≤ chunk) × (o < s)

-- an id of 8 bytes, or no id
abbrev pub IdFits : Source → Type 0
IdFits Nothing = Unit {0}
IdFits Zero = Unit {0}
IdFits (Byte i s o) = i < 2 ^ 64

-- a byte of a slice with the size that a table gives it, or no byte
abbrev pub OfSize : (ℕ → ℕ) → Source → Type 0
OfSize sizes Nothing = Unit {0}
OfSize sizes Zero = Unit {0}
OfSize sizes (Byte i s o) = s ≡ sizes i

-- what each record gives, and nothing, have a property: so has a list's cover
module _ (Q : Source → Type 0) (nothing : Q Nothing) (P : Record → Type 0)
    (gives : (r : Record) → P r → (p : ℕ) → r.pos ≤ p → p < r.pos + r.len → Q (given r p)) where
  over_has : (a b : Source) → Q a → Q b → Q (over a b)
  unfolding over
  over_has Nothing b h k = k
  over_has Zero b h k = h
  over_has (Byte i s o) b h k = h

  layer_has : (r : Record) → P r → (p : ℕ) → Q (layer r p)
  layer_has r h p = go (dec_lt p r.pos) (dec_lt p (r.pos + r.len))
    where
      go : Dec (p < r.pos) → Dec (p < r.pos + r.len) → Q (layer r p)
      go (yes a) b = rw (layer_before r p a) nothing
      go (no a) (yes b) = rw (layer_in r p (omega arith) b) (gives r h p (omega arith) b)
      go (no a) (no b) = rw (layer_after r p (omega arith)) nothing

  cover_has : (rs : List Record) → All P rs → (p : ℕ) → Q (cover rs p)
  unfolding cover
  cover_has [] h p = nothing
  cover_has (r ∷ rs) h p = over_has (cover rs p) (layer r p) (cover_has rs h.1 p) (layer_has r h.0 p)

given_real : (r : Record) → Passes r → (p : ℕ) → r.pos ≤ p → p < r.pos + r.len → Real (given r p)
given_real r h p a b = go (ℕ_discrete r.id 0)
  where
    go : Dec (r.id ≡ 0) → Real (given r p)
    go (yes z) = rw (given-zero r p z) tt
    go (no z) = rw (given_byte r p z) (z, h.sized, omega (arith, h.within z))

given_id : (r : Record) → Fits r → (p : ℕ) → r.pos ≤ p → p < r.pos + r.len → IdFits (given r p)
given_id r h p a b = go (ℕ_discrete r.id 0)
  where
    go : Dec (r.id ≡ 0) → IdFits (given r p)
    go (yes z) = rw (given-zero r p z) tt
    go (no z) = rw (given_byte r p z) h.id

given_sized : (sizes : ℕ → ℕ) (r : Record) → Sized sizes r → (p : ℕ) → r.pos ≤ p → p < r.pos + r.len → OfSize sizes (given r p)
given_sized sizes r h p a b = go (ℕ_discrete r.id 0)
  where
    go : Dec (r.id ≡ 0) → OfSize sizes (given r p)
    go (yes z) = rw (given-zero r p z) tt
    go (no z) = rw (given_byte r p z) (h z)

pub cover_real : (rs : List Record) → All Passes rs → (p : ℕ) → Real (cover rs p)
cover_real = cover_has Real tt Passes given_real

pub cover_id : (rs : List Record) → All Fits rs → (p : ℕ) → IdFits (cover rs p)
cover_id = cover_has IdFits tt Fits given_id

pub cover_sized : (sizes : ℕ → ℕ) (rs : List Record) → All (Sized sizes) rs → (p : ℕ) → OfSize sizes (cover rs p)
cover_sized sizes = cover_has (OfSize sizes) tt (Sized sizes) (given_sized sizes)

-- nothing lies past the chunk
pub cover_beyond : (rs : List Record) → All Passes rs → (p : ℕ) → chunk ≤ p → cover rs p ≡ Nothing
unfolding cover
cover_beyond [] h p l = refl
cover_beyond (r ∷ rs) h p l = rw (cover_beyond rs h.1 p l, layer_after r p (omega (arith, h.0.inside)))
