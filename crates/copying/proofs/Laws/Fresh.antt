-- A list in which an id stands nowhere reads no byte of that id's slices. Assumes nothing.
use Prim.Native.Nat.{ℕ, ◌+◌, ◌-◌}
use native.Mathlib.Omega.{arith}
use mathlib.Core.Path.{◌≡◌}
use mathlib.Core.Bool.{Bool, true, false, cond}
use mathlib.Core.Logic.{◌≢◌}
use mathlib.Core.List.{List, [], ◌∷◌}
use lib.Dec.{eqb}
use Rattle.slices.specs.Cover.{cover, over, layer, given, covers}
use Rattle.plans.specs.Location.{location, location_at}
use Rattle.slices.proofs.Laws.Ids.{Fresh}
use Rattle.slices.specs.declared.Record.{Record}
use Rattle.slices.specs.declared.Source.{Source}
use Rattle.slices.specs.declared.Source.TheVariants.{Nothing, Zero, Byte}

-- a source that is no byte of the id's slices
abbrev Avoids : ℕ → Source → Type 0
Avoids id Nothing = Unit {0}
Avoids id Zero = Unit {0}
Avoids id (Byte i s o) = i ≢ id

over_avoids : (id : ℕ) (a b : Source) → Avoids id a → Avoids id b → Avoids id (over a b)
unfolding over
over_avoids id Nothing b h k = k
over_avoids id Zero b h k = tt
over_avoids id (Byte i s o) b h k = h

layer_avoids : (id : ℕ) (r : Record) (p : ℕ) → r.id ≢ id → Avoids id (layer r p)
unfolding layer given
layer_avoids id r p h = go (covers r p) (eqb r.id 0)
  where
    go : (x y : Bool) → Avoids id (cond x (cond y Zero (Byte r.id r.size (r.off + (p - r.pos)))) Nothing)
    go true true = tt
    go true false = h
    go false y = tt

cover_avoids : (id : ℕ) (rs : List Record) → Fresh id rs → (p : ℕ) → Avoids id (cover rs p)
unfolding cover
cover_avoids id [] h p = tt
cover_avoids id (r ∷ rs) h p = over_avoids id (cover rs p) (layer r p) (cover_avoids id rs h.1 p) (layer_avoids id r p h.0)

location_avoids : (B id size : ℕ) (s : Source) → Avoids id s → (o : ℕ) → ¬ (location B s ≡ location B (Byte id size o))
unfolding location
location_avoids B id size Nothing h o e = let z : ◌≡◌ {A = ℕ} 0 1 = cc in omega arith
location_avoids B id size Zero h o e = let z : ◌≡◌ {A = ℕ} 0 1 = cc in omega arith
location_avoids B id size (Byte i s u) h o e = h (cc)

-- no position of the list is read from a slice of the id, whatever its size
pub fresh_apart : (B id size : ℕ) (rs : List Record) → Fresh id rs → (p o : ℕ) → ¬ (location_at B rs p ≡ location B (Byte id size o))
unfolding location_at
fresh_apart B id size rs h p o = location_avoids B id size (cover rs p) (cover_avoids id rs h p) o
