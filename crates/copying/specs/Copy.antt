-- Copying by a plan: it turns the store before it into the store after it (paper 01, "Read plan and compaction plan"). First what it is, then a
-- store that it makes. Assumes nothing.
use Rattle.std.specs.Prelude.{ℕ, zero, suc, ◌+◌, ◌<◌, ◌≤◌, ◌≡◌, ◌⊎◌, ◌&&◌, cond, List, [], ◌∷◌, eqb, take}
use Rattle.runs.specs.Runs.{Run}
use Rattle.plans.specs.Location.{location, onward}
use Rattle.plans.specs.Piece.{store_runs}
use Rattle.plans.specs.Store.{Store, fetch, fetched}
use Rattle.compaction.specs.Compaction.{extent, plan_bytes}
use Rattle.slices.specs.declared.Record.{Record}
use Rattle.slices.specs.declared.Source.TheVariants.{Byte}
use Rattle.plans.specs.declared.Location.{Location}
use Rattle.plans.specs.declared.Location.TheVariants.{Hole, In}

-- ---- what it is

-- a piece holds the place o of the read
pub record Holds (r : Run Location) (o : ℕ) : Type 0 where
  pub low : r.start ≤ o
  pub high : o < r.start + r.len

-- one of the pieces does
abbrev pub Held : List (Run Location) → ℕ → Type 0
Held [] o = ⊥
Held (r ∷ rs) o = Holds r o ⊎ Held rs o

-- copying by a plan into the slice `id` of the given size turns `before` into `after`
pub record Copies (B id size : ℕ) (plan : List (Run Location)) (before after : Store) : Type 0 where
  -- A piece at place s sets, for each j below its length, the byte at which the source (id, size, s + j) is read: for zeros to 0, else to the byte
  -- that the store before gives at the piece's (id, block, block length, place in block + j).
  pub sets : (o : ℕ) → Held plan o → fetch after (location B (Byte id size o)) ≡ fetched before plan o
  -- Every other byte stays, and an empty plan sets none.
  pub stays : (q : Location) → ((o : ℕ) → Held plan o → ¬ (q ≡ location B (Byte id size o))) → fetch after q ≡ fetch before q

-- copying by the bytes of the plan of a compaction, in the chunk with this index
abbrev pub Copied : (index B : ℕ) → List Record → (k id : ℕ) (before after : Store) → Type 0
Copied index B rs k id before after = Copies B id (extent (take k rs)) (store_runs (plan_bytes index B rs k)) before after

-- ---- a store that it makes

-- the store with the byte v at a location, and every other byte as it was
unfoldable pub put : Location → ℕ → Store → Store
put Hole v st = st
put (In i b l a) v st = λ j c m t. cond (eqb j i && (eqb c b && (eqb m l && eqb t a))) v (st j c m t)

module _ (B id size : ℕ) (before : Store) where
  -- the first n bytes of a piece are set
  unfoldable pub set_bytes : Run Location → ℕ → Store → Store
  set_bytes r zero st = st
  set_bytes r (suc j) st = put (location B (Byte id size (r.start + j))) (fetch before (onward r.first j)) (set_bytes r j st)

  -- each piece sets all its bytes
  unfoldable pub copy : List (Run Location) → Store
  copy [] = before
  copy (r ∷ rs) = set_bytes r r.len (copy rs)

unfoldable pub copied : (index B : ℕ) → List Record → (k id : ℕ) → Store → Store
copied index B rs k id before = copy B id (extent (take k rs)) before (store_runs (plan_bytes index B rs k))
