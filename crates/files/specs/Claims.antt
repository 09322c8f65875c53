-- What is to be believed of reads across a file, in one record: for every number of lists, of any length, and for every store. `across_chunks` of
-- proofs/Laws/Claims.antt proves it. Assumes nothing.
use Rattle.std.specs.Prelude.{ℕ, ◌+◌, ◌-◌, ◌*◌, ◌<◌, ◌≡◌, ◌↔◌, List, [], ◌∷◌, map, length}
use Rattle.codec.specs.All.{All, Bytes}
use Rattle.slices.specs.Limits.{chunk}
use Rattle.outcomes.specs.Outcome.{refused, done, NoneHolds, Given}
use Rattle.runs.specs.Runs.{Run, Valid}
use Rattle.joined.specs.Refusals.{ListRefusal}
use Rattle.plans.specs.Location.{Site, next_site}
use Rattle.plans.specs.Piece.{in_chunk, in_store, pieces_in, store_runs}
use Rattle.plans.specs.Plan.{cut_to, read_plan}
use Rattle.plans.specs.Store.{Store, fetched}
use Rattle.files.specs.Calls.{lists_in, file_bytes, file_rows, file_outcome}
use Rattle.files.specs.File.{site_from, file_reads, file_end, file_plan, InOneChunk, part_from, part_end, chunk_plan, chunk_plans}
use Rattle.slices.specs.declared.Record.{Record}

pub record AcrossChunks : Type 0 where
  -- fetching by the plan gives, at each place of the read, the byte that the file has there, from any store
  pub bytes : (st : Store) (first B : ℕ) (ls : List (List Record)) (file_len start count i : ℕ) → i < cut_to (file_end first file_len (length ls)) start count
      → fetched st (map in_store (file_plan first B ls file_len start count)) i ≡ file_reads B st ls (start + i)
  -- the plan divides the places of the read into maximal runs of one chunk, and nothing else does
  pub divides : (first B : ℕ) (ls : List (List Record)) (file_len start count : ℕ)
      → Valid next_site (site_from first B ls start) 0 (cut_to (file_end first file_len (length ls)) start count) (file_plan first B ls file_len start count)
  pub only : (first B : ℕ) (ls : List (List Record)) (file_len start count : ℕ) (xs : List (Run Site))
      → Valid next_site (site_from first B ls start) 0 (cut_to (file_end first file_len (length ls)) start count) xs → xs ≡ file_plan first B ls file_len start count
  -- no piece crosses a chunk's edge
  pub edges : (first B : ℕ) (ls : List (List Record)) (start file_len count : ℕ) → All (InOneChunk first start) (file_plan first B ls file_len start count)
  -- the plan of m lists is the chunks' plans one after the other, places moved
  pub joins : (first B : ℕ) (ls : List (List Record)) (file_len start count : ℕ)
      → file_plan first B ls file_len start count ≡ chunk_plans first B start (start + cut_to (file_end first file_len (length ls)) start count) 0 ls
  pub each : (first B from end k : ℕ) (rs : List Record)
      → chunk_plan first B from end k rs ≡ map (in_chunk (first + k) (k * chunk - from)) (read_plan B rs (part_end end k) (part_from from k) end)
  -- with one list it is the read plan of that chunk
  pub one_list : (first B : ℕ) (rs : List Record) (file_len start count : ℕ)
      → file_plan first B (rs ∷ []) file_len start count ≡ map (in_chunk first 0) (read_plan B rs (file_end first file_len 1) start count)
  -- the call is refused, with a number, a place and an index, exactly in the case of a row, and answers exactly where none holds
  pub refused_exactly : (bs lengths : List ℕ) (first file_len B start count room : ℕ) (r : ListRefusal)
      → (file_outcome bs lengths first file_len B start count room ≡ refused r) ↔ Given (file_rows bs lengths first file_len B start count room) r
  pub answered_exactly : (bs lengths : List ℕ) (first file_len B start count room : ℕ)
      → (file_outcome bs lengths first file_len B start count room ≡ done (file_bytes bs lengths first file_len B start count))
      ↔ NoneHolds (file_rows bs lengths first file_len B start count room)
  -- what it wrote is read back as the plan, and fetches what the file has
  pub wrote : (bs lengths : List ℕ) → Bytes bs → (first file_len B start count room : ℕ) (out : List ℕ) → file_outcome bs lengths first file_len B start count room ≡ done out
      → pieces_in out ≡ file_plan first B (lists_in bs lengths) file_len start count
  pub wrote_bytes : (bs lengths : List ℕ) → Bytes bs → (first file_len B start count room : ℕ) (out : List ℕ) → file_outcome bs lengths first file_len B start count room ≡ done out
      → (st : Store) (i : ℕ) → i < cut_to (file_end first file_len (length lengths)) start count → fetched st (store_runs out) i ≡ file_reads B st (lists_in bs lengths) (start + i)
