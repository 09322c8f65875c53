-- Where the bytes of a chunk lie in the store: nowhere, so that they read as zero, or in the objects of slices, in blocks of B bytes.
-- Assumes nothing.
use Rattle.std.specs.Prelude.{ℕ, ◌+◌, ◌/◌, ◌%◌, Bool, true, false, ◌&&◌, List, eqb}
use Rattle.slices.specs.Cover.{cover}
use Rattle.blocks.specs.Blocks.{block_length}
use Rattle.slices.specs.declared.Record.{Record}
use Rattle.slices.specs.declared.Source.{Source}
use Rattle.slices.specs.declared.Source.TheVariants.{Nothing, Zero, Byte}
use Rattle.plans.specs.declared.Location.{Location}
use Rattle.plans.specs.declared.Location.TheVariants.{Hole, In}

-- nothing and zero both read as zero; slice offset o lies in block o / B at place o % B
unfoldable pub location : ℕ → Source → Location
location B Nothing = Hole
location B Zero = Hole
location B (Byte id size o) = In id (o / B) (block_length B size (o / B)) (o % B)

-- where a list's position lies
unfoldable pub location_at : ℕ → List Record → ℕ → Location
location_at B rs p = location B (cover rs p)

-- b continues a at the position after it: both read as zero, or they lie in one object (id, block, block length) at consecutive places
unfoldable pub next_location : Location → Location → Bool
next_location Hole Hole = true
next_location Hole (In j c m t) = false
next_location (In i b l a) Hole = false
next_location (In i b l a) (In j c m t) = eqb i j && (eqb b c && (eqb l m && eqb t (a + 1)))

-- where a byte of a file lies: the index of its chunk, and where in the store
pub record Site : Type 0 where
  pub index : ℕ
  pub location : Location

-- b continues a at the place after it: both are of one chunk, and the locations go on
unfoldable pub next_site : Site → Site → Bool
next_site a b = eqb a.index b.index && next_location a.location b.location

-- the location k bytes on in one run
unfoldable pub onward : Location → ℕ → Location
onward Hole k = Hole
onward (In i b l a) k = In i b l (a + k)
