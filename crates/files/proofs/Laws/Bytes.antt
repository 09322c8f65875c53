-- The plan of a file in words of bytes: fetching by it from any store gives, for every place of the read, the byte that the file has there. And it
-- divides the places into maximal runs, as nothing else does. Assumes nothing.
use Prim.Native.Nat.{ℕ, suc, ◌+◌, ◌-◌, ◌*◌, ◌^◌, ◌≤◌, ◌<◌, zero-le}
use native.Mathlib.Omega.{arith}
use native.Mathlib.Nat.{zero-add}
use mathlib.Core.Path.{◌≡◌, ap}
use mathlib.Core.List.{List, [], ◌∷◌, map}
use lib.ListN.{length, take, drop, length-map}
use lib.Dec.{eqb}
use Rattle.codec.specs.All.{All, Bytes}
use Rattle.codec.proofs.Laws.All.{all_append, all_take, all_drop}
use Rattle.codec.proofs.Laws.Bools.{and_both}
use Rattle.slices.specs.Accepts.{Accepts}
use Rattle.slices.specs.Limits.{chunk}
use Rattle.slices.specs.Passes.{Passes}
use Rattle.slices.specs.Record.{Fits, records}
use Rattle.slices.proofs.Laws.Firsts.{records_fit}
use Rattle.runs.specs.Runs.{Run, Valid, IsRun}
use Rattle.runs.proofs.Laws.Runs.{runs_valid, valid_unique}
use Rattle.plans.specs.Location.{Site, next_site, next_location}
use Rattle.plans.specs.Piece.{in_store, store_runs, pieces_in, RunFits}
use Rattle.plans.specs.Plan.{cut_to}
use Rattle.plans.specs.Store.{Store, reads, fetched}
use Rattle.plans.proofs.Laws.Bytes.{Divides, fetched_divided}
use Rattle.plans.proofs.Laws.Fits.{pieces_fit}
use Rattle.plans.proofs.Laws.Pieces.{pieces_back}
use Rattle.joined.specs.Lists.{parts}
use Rattle.joined.proofs.Laws.Lists.{parts-length}
use Rattle.files.specs.Limits.{max_lists}
use Rattle.files.specs.Calls.{lists_in, file_bytes}
use Rattle.files.specs.File.{site_at, site_from, file_reads, file_end, file_pieces, file_plan, part_from, part_end, chunk_plan, chunk_plans}
use Rattle.files.proofs.Laws.Joins.{file_plan_joins}
use Rattle.slices.specs.declared.Record.{Record}

-- ---- the division

module _ (first B : ℕ) (ls : List (List Record)) (file_len start count : ℕ) where
  abbrev places : ℕ
  places = cut_to (file_end first file_len (length ls)) start count

  pub file_plan_divides : Valid next_site (site_from first B ls start) 0 places (file_plan first B ls file_len start count)
  unfolding file_plan file_pieces
  file_plan_divides = runs_valid next_site (site_from first B ls start) 0 places places (zero-add places)

  pub file_plan_only : (xs : List (Run Site)) → Valid next_site (site_from first B ls start) 0 places xs → xs ≡ file_plan first B ls file_len start count
  unfolding file_plan file_pieces
  file_plan_only xs v = valid_unique next_site (site_from first B ls start) 0 places places (zero-add places) xs v

-- ---- what is fetched

-- runs of one chunk are runs in the store
site_run : (f : ℕ → Site) (at : ℕ) (r : Run Site) → IsRun next_site f at r → IsRun next_location (λ p. (f p).location) at (in_store r)
unfolding in_store next_site
site_run f at r v =
    record {
      starts = v.starts;
      some = v.some;
      first_is = ap (λ (s : Site). s.location) v.first_is;
      inside = λ p a b. (and_both (eqb (f p).index (f (suc p)).index) (next_location (f p).location (f (suc p)).location) (v.inside p a b)).1;
    }

sites_divide : (f : ℕ → Site) (at end : ℕ) (xs : List (Run Site)) → Valid next_site f at end xs → Divides (λ p. (f p).location) at end (map in_store xs)
unfolding in_store
sites_divide f at end [] v = v
sites_divide f at end (r ∷ xs) v = (site_run f at r v.0, sites_divide f (at + r.len) end xs v.2)

pub file_plan_bytes : (st : Store) (first B : ℕ) (ls : List (List Record)) (file_len start count i : ℕ) → i < cut_to (file_end first file_len (length ls)) start count
    → fetched st (map in_store (file_plan first B ls file_len start count)) i ≡ file_reads B st ls (start + i)
unfolding site_from site_at file_reads reads
file_plan_bytes st first B ls file_len start count i h =
    let n = cut_to (file_end first file_len (length ls)) start count in
    fetched_divided st (λ p. (site_from first B ls start p).location) 0 n (map in_store (file_plan first B ls file_len start count))
    (sites_divide (site_from first B ls start) 0 n (file_plan first B ls file_len start count) (file_plan_divides first B ls file_len start count)) i zero-le h

-- ---- as bytes

module _ (first B from end : ℕ) where
  place_fits : (k : ℕ) → k < max_lists → k * chunk - from + (part_end end k - part_from from k) < 2 ^ 32
  unfolding part_from part_end chunk
  place_fits k h = omega arith

  chunks_fit : (k : ℕ) (ls : List (List Record)) → All (All Passes) ls → All (All Fits) ls → first + (k + length ls) ≤ 2 ^ 32 → k + length ls ≤ max_lists
      → All RunFits (chunk_plans first B from end k ls)
  unfolding chunk_plans chunk_plan
  chunks_fit k [] p f g h = tt
  chunks_fit k (rs ∷ ls) p f g h =
      all_append RunFits (chunk_plan first B from end k rs) (chunk_plans first B from end (suc k) ls)
      (pieces_fit B rs p.0 f.0 (first + k) (omega arith) (k * chunk - from) (part_from from k) (part_end end k - part_from from k) (place_fits k (omega arith)))
      (chunks_fit (suc k) ls p.1 f.1 (omega arith) (omega arith))

-- of the joined lists

parts_passes : (ns bs : List ℕ) → All Accepts (parts ns bs) → All (All Passes) (map records (parts ns bs))
unfolding parts
parts_passes [] bs h = tt
parts_passes (n ∷ ns) bs h = (h.0.pass, parts_passes ns (drop n bs) h.1)

parts_fit : (ns bs : List ℕ) → Bytes bs → All (All Fits) (map records (parts ns bs))
unfolding parts
parts_fit [] bs b = tt
parts_fit (n ∷ ns) bs b = (records_fit (take n bs) (all_take _ n bs b), parts_fit ns (drop n bs) (all_drop _ n bs b))

module _ (bs lengths : List ℕ) (b : Bytes bs) (a : All Accepts (parts lengths bs)) (few : length lengths ≤ max_lists)
    (first file_len B start count : ℕ) (g : first + length lengths ≤ 2 ^ 32) where
  as_many : length (lists_in bs lengths) ≡ length lengths
  unfolding lists_in
  as_many = rw length-map (parts-length lengths bs)

  -- the bytes of the plan are read back as the plan
  pub file_plan_back : pieces_in (file_bytes bs lengths first file_len B start count) ≡ file_plan first B (lists_in bs lengths) file_len start count
  unfolding file_bytes lists_in
  file_plan_back =
      let ls = lists_in bs lengths in
      let e = start + cut_to (file_end first file_len (length ls)) start count in
      let f = chunks_fit first B start e 0 ls (parts_passes lengths bs a) (parts_fit lengths bs b) (omega (arith, as_many)) (omega (arith, as_many)) in
      pieces_back (file_plan first B ls file_len start count) (rw (file_plan_joins first B ls file_len start count) f)

  -- and fetch what the file has
  pub file_bytes_back : (st : Store) (i : ℕ) → i < cut_to (file_end first file_len (length lengths)) start count
      → fetched st (store_runs (file_bytes bs lengths first file_len B start count)) i ≡ file_reads B st (lists_in bs lengths) (start + i)
  unfolding store_runs
  file_bytes_back st i h = rw file_plan_back (file_plan_bytes st first B (lists_in bs lengths) file_len start count i (rw as_many h))
