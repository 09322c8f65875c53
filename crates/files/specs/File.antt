-- A read across the chunks of a file (paper 02, L9): `ls` are the lists of the chunks from the index `first` on, and positions are counted from the
-- first chunk's beginning. No limit on the number of lists, nor on their lengths. Assumes nothing.
use Rattle.std.specs.Prelude.{ℕ, suc, ◌+◌, ◌-◌, ◌*◌, ◌/◌, ◌%◌, min, ◌≡◌, List, [], ◌∷◌, ◌++◌, map, length, get_or}
use Rattle.slices.specs.Limits.{chunk}
use Rattle.runs.specs.Runs.{Run, runs}
use Rattle.plans.specs.Location.{Site, next_site, location_at}
use Rattle.plans.specs.Piece.{in_chunk}
use Rattle.plans.specs.Plan.{cut_to, pieces}
use Rattle.plans.specs.Store.{Store, reads}
use Rattle.slices.specs.declared.Record.{Record}

-- position q is position q % 64 MiB of chunk q / 64 MiB; the list of that chunk
unfoldable pub list_of : List (List Record) → ℕ → List Record
list_of ls q = get_or ls (q / chunk) []

-- where a position lies: the index of its chunk, and where in the store
unfoldable pub site_at : (first B : ℕ) → List (List Record) → ℕ → Site
site_at first B ls q = record { index = first + q / chunk; location = location_at B (list_of ls q) (q % chunk) }

-- where byte i of a read from `start` lies
unfoldable pub site_from : (first B : ℕ) → List (List Record) → (start i : ℕ) → Site
site_from first B ls start i = site_at first B ls (start + i)

-- the byte that the file has at a position
unfoldable pub file_reads : ℕ → Store → List (List Record) → ℕ → ℕ
file_reads B st ls q = reads B st (list_of ls q) (q % chunk)

-- the lesser of the file's end and the last list's
unfoldable pub file_end : (first file_len lists : ℕ) → ℕ
file_end first file_len lists = min (file_len - first * chunk) (lists * chunk)

-- the plan of a read of n bytes from `start`: the maximal runs, of its n places, that are of one chunk and read as zero or lie in one object at
-- consecutive places
unfoldable pub file_pieces : (first B : ℕ) → List (List Record) → (start n : ℕ) → List (Run Site)
file_pieces first B ls start n = runs next_site (site_from first B ls start) 0 n

-- the plan of a read of `count` bytes from `start`, "cut to the file's end and the last list's"
unfoldable pub file_plan : (first B : ℕ) → List (List Record) → (file_len start count : ℕ) → List (Run Site)
file_plan first B ls file_len start count = file_pieces first B ls start (cut_to (file_end first file_len (length ls)) start count)

-- "No piece crosses a chunk's edge": the first and the last byte of a run are of the chunk whose index it has
pub record InOneChunk (first start : ℕ) (r : Run Site) : Type 0 where
  pub from : r.first.index ≡ first + (start + r.start) / chunk
  pub to : r.first.index ≡ first + (start + (r.start + r.len - 1)) / chunk

-- ---- the chunks' plans, one after the other

-- of the positions from `from` up to `end`, those of chunk k, counted from its beginning
unfoldable pub part_from : (from k : ℕ) → ℕ
part_from from k = from - k * chunk

unfoldable pub part_end : (end k : ℕ) → ℕ
part_end end k = min (end - k * chunk) chunk

-- their plan in chunk k, with its index, and with its places moved by those of the read before it
unfoldable pub chunk_plan : (first B from end k : ℕ) → List Record → List (Run Site)
chunk_plan first B from end k rs = map (in_chunk (first + k) (k * chunk - from)) (pieces B rs (part_from from k) (part_end end k - part_from from k))

-- those of the chunks from k on
unfoldable pub chunk_plans : (first B from end k : ℕ) → List (List Record) → List (Run Site)
chunk_plans first B from end k [] = []
chunk_plans first B from end k (rs ∷ ls) = chunk_plan first B from end k rs ++ chunk_plans first B from end (suc k) ls
