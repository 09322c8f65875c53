-- What is read, in the words of the requirements: at a position by a list, and at a place by a piece of a plan. Assumes nothing.
use Prim.Native.Nat.{ℕ, ◌+◌, ◌-◌, ◌*◌, ◌/◌, ◌%◌, ◌≤◌, ◌<◌, min}
use mathlib.Core.Path.{◌≡◌}
use mathlib.Core.List.{List, ◌∷◌}
use Rattle.slices.specs.Cover.{cover}
use Rattle.blocks.specs.Blocks.{block_length}
use Rattle.runs.specs.Runs.{Run}
use Rattle.plans.specs.Location.{location, location_at, onward}
use Rattle.plans.specs.Store.{Store, fetch, reads, fetched}
use Rattle.plans.proofs.Laws.Bytes.{fetched_here}
use Rattle.slices.specs.declared.Record.{Record}
use Rattle.slices.specs.declared.Source.TheVariants.{Nothing, Zero, Byte}
use Rattle.plans.specs.declared.Location.{Location}
use Rattle.plans.specs.declared.Location.TheVariants.{Hole, In}

-- "0 where its cover has nothing or a zero; else, for the source (id, size, o) and i = o / B, the store's byte at (id, i, min(B, size - i × B), o % B)"
module _ (B : ℕ) (st : Store) (rs : List Record) (p : ℕ) where
  pub reads_nothing : cover rs p ≡ Nothing → reads B st rs p ≡ 0
  unfolding reads location_at location fetch
  reads_nothing e = rw e

  pub reads-zero : cover rs p ≡ Zero → reads B st rs p ≡ 0
  unfolding reads location_at location fetch
  reads-zero e = rw e

  pub reads_byte : (id size o : ℕ) → cover rs p ≡ Byte id size o → reads B st rs p ≡ st id (o / B) (min B (size - o / B * B)) (o % B)
  unfolding reads location_at location fetch block_length
  reads_byte id size o e = rw e

-- of the piece that holds place i: 0 for zeros, else "the byte that the store gives at the piece's (id, block, block length, place in block + j)"
module _ (st : Store) (r : Run Location) (rs : List (Run Location)) (i : ℕ) (h : r.start ≤ i) (k : i < r.start + r.len) where
  pub fetched_zeros : r.first ≡ Hole → fetched st (r ∷ rs) i ≡ 0
  unfolding fetch onward
  fetched_zeros e = rw (fetched_here st r rs i h k, e)

  pub fetched_object : (id block len at : ℕ) → r.first ≡ In id block len at → fetched st (r ∷ rs) i ≡ st id block len (at + (i - r.start))
  unfolding fetch onward
  fetched_object id block len at e = rw (fetched_here st r rs i h k, e)
