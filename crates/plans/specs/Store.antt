-- The store, what a list reads from it, and what a plan fetches from it. Assumes nothing.
use Rattle.std.specs.Prelude.{ℕ, ◌+◌, ◌-◌, ◌&&◌, cond, List, [], ◌∷◌, leb, ltb}
use Rattle.runs.specs.Runs.{Run}
use Rattle.plans.specs.Location.{location_at, onward}
use Rattle.slices.specs.declared.Record.{Record}
use Rattle.plans.specs.declared.Location.{Location}
use Rattle.plans.specs.declared.Location.TheVariants.{Hole, In}

-- a store gives one byte to each (id, block, block length, place)
abbrev pub Store : Type 0
Store = ℕ → ℕ → ℕ → ℕ → ℕ

-- the byte that is read at a location
unfoldable pub fetch : Store → Location → ℕ
fetch st Hole = 0
fetch st (In i b l a) = st i b l a

-- what a list reads from a store at a position: 0 where its cover has nothing or a zero; else, for the source (id, size, o) and i = o / B,
-- the store's byte at (id, i, min(B, size - i × B), o % B)
unfoldable pub reads : ℕ → Store → List Record → ℕ → ℕ
reads B st rs p = fetch st (location_at B rs p)

-- what a plan fetches for place i of the read: byte i - start of the run that holds it, which is 0 for zeros, else the store's byte at the run's
-- (id, block, block length, place in block + i - start)
unfoldable pub fetched : Store → List (Run Location) → ℕ → ℕ
fetched st [] i = 0
fetched st (r ∷ rs) i = cond (leb r.start i && ltb i (r.start + r.len)) (fetch st (onward r.first (i - r.start))) (fetched st rs i)
