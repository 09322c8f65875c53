-- The read plan (paper 01, "Read plan and compaction plan"). No limit on the length of a list. Assumes nothing.
use Rattle.std.specs.Prelude.{ℕ, ◌+◌, ◌-◌, min, List}
use Rattle.runs.specs.Runs.{Run, runs}
use Rattle.plans.specs.Location.{location_at, next_location}
use Rattle.slices.specs.declared.Record.{Record}
use Rattle.plans.specs.declared.Location.{Location}

-- how many bytes a read of `count` bytes from `start` has when it is cut to the chunk length l: none from a start at or past l
unfoldable pub cut_to : (l start count : ℕ) → ℕ
cut_to l start count = min count (l - start)

-- where byte i of a read from `start` lies
unfoldable pub location_from : ℕ → List Record → (start i : ℕ) → Location
location_from B rs start i = location_at B rs (start + i)

-- the plan of a read of n bytes from `start`: the maximal runs, of its n places, that read as zero or lie in one object at consecutive places
unfoldable pub pieces : ℕ → List Record → (start n : ℕ) → List (Run Location)
pieces B rs start n = runs next_location (location_from B rs start) 0 n

-- the read plan of `count` bytes from `start`, cut to the chunk length l
unfoldable pub read_plan : ℕ → List Record → (l start count : ℕ) → List (Run Location)
read_plan B rs l start count = pieces B rs start (cut_to l start count)
