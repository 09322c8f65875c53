-- The plan of several lists is their chunks' plans, one after the other, with the places moved; of one list it is the read plan of its chunk.
-- Assumes nothing.
use Prim.Native.Nat.{ℕ, suc, ◌+◌, ◌-◌, ◌*◌, ◌/◌, ◌%◌, ◌≤◌, ◌<◌, min}
use native.Mathlib.Omega.{arith}
use native.Mathlib.Nat.{add-zero, zero-add, suc-mul}
use native.Mathlib.Decide.{dec_lt}
use mathlib.Core.Path.{◌≡◌, sym, ap, ◌∙◌}
use mathlib.Core.List.{List, [], ◌∷◌, ◌++◌, map, append-nil}
use lib.ListN.{length, get_or}
use lib.Seq.{take_all}
use borrow.Author.Tests.{ne_eqb}
use Rattle.slices.specs.Limits.{chunk}
use Rattle.slices.specs.Record.{records}
use Rattle.joined.specs.Lists.{parts}
use Rattle.files.specs.Calls.{lists_in, file_bytes}
use Rattle.runs.specs.Runs.{runs, Parts}
use Rattle.runs.proofs.Laws.Runs.{runs_append}
use Rattle.plans.specs.Location.{Site, next_site}
use Rattle.plans.specs.Calls.{plan_bytes}
use Rattle.plans.specs.Piece.{encode_pieces, in_chunk, chunk_bytes}
use Rattle.plans.specs.Plan.{cut_to, location_from, pieces, read_plan}
use Rattle.files.specs.File.{list_of, site_at, site_from, file_end, file_pieces, file_plan, part_from, part_end, chunk_plan, chunk_plans}
use Rattle.files.proofs.Laws.Runs.{runs_in_chunk}
use Rattle.slices.specs.declared.Record.{Record}

-- ---- positions from `from` up to `end`, of which those from `low` up to low + n are a chunk's

-- the read begins before t, or not
ahead_of : (from end t : ℕ) → from ≤ t → end - from - (t - from) ≡ end - t
ahead_of from end t h = omega arith

behind : (from end t : ℕ) → t ≤ from → end - from - (t - from) ≡ end - from
behind from end t h = omega arith

-- it begins in the midst of the chunk
midst : (d end low n : ℕ) → d < n → end - (low + d) ≡ min (end - low) n - d + (end - (low + n))
midst d end low n h = omega arith

meet : (from low n : ℕ) → low - from + (n - (from - low)) ≡ low + n - from
meet from low n = omega arith

module _ (from end low n : ℕ) where
  in_midst : low < from → from < low + n → end - from ≡ min (end - low) n - (from - low) + (end - (low + n))
  in_midst l m =
      let d : low + (from - low) ≡ from = omega arith in
      rw d at (midst (from - low) end low n (omega arith))

  past_it : low + n ≤ from → min (end - low) n - (from - low) ≡ 0
  past_it m = omega arith

  -- those from the chunk on are its own, and those behind it
  places_split : end - from - (low - from) ≡ min (end - low) n - (from - low) + (end - from - (low + n - from))
  places_split = go (dec_lt low from) (dec_lt from (low + n))
    where
      go : Dec (low < from) → Dec (from < low + n) → end - from - (low - from) ≡ min (end - low) n - (from - low) + (end - from - (low + n - from))
      go (no l) m =
          let y : from - low ≡ 0 = omega arith in
          rw (ahead_of from end low (omega arith), ahead_of from end (low + n) (omega arith), y) (omega arith)
      go (yes l) (yes m) = rw (behind from end low (omega arith), ahead_of from end (low + n) (omega arith)) (in_midst l m)
      go (yes l) (no m) = rw (behind from end low (omega arith), behind from end (low + n) (omega arith), past_it (omega arith)) (sym (zero-add (end - from)))

  -- where the next chunk's begin, if there are any
  places_next : 0 < end - from - (low + n - from) → low - from + (min (end - low) n - (from - low)) ≡ low + n - from
  places_next h =
      let e : low + n < end = omega arith in
      let m : min (end - low) n ≡ n = omega arith in
      rw m (meet from low n)

module _ (from end : ℕ) where
  -- the places of the read from chunk k on
  abbrev pub remaining : ℕ → ℕ
  remaining k = end - from - (k * chunk - from)

  none_remains : (k : ℕ) → (from < end → end ≤ k * chunk) → remaining k ≡ 0
  none_remains k h = go (dec_lt from end)
    where
      go : Dec (from < end) → remaining k ≡ 0
      go (yes l) = omega (arith, h l)
      go (no l) = omega arith

  -- how many places chunk k has, and where the next one's begin if there are any
  pub remains : (k : ℕ) → remaining k ≡ part_end end k - part_from from k + remaining (suc k)
  unfolding part_from part_end
  remains k = rw (suc-mul k chunk) (places_split from end (k * chunk) chunk)

  begins : (k : ℕ) → 0 < remaining (suc k) → k * chunk - from + (part_end end k - part_from from k) ≡ suc k * chunk - from
  unfolding part_from part_end
  begins k h = rw (suc-mul k chunk) (places_next from end (k * chunk) chunk (rw (suc-mul k chunk) at h))

module _ (first B : ℕ) (ls : List (List Record)) (from end : ℕ) where
  -- a place of chunk k
  in_chunk_lem : (k j : ℕ) → j < part_end end k - part_from from k
      → site_from first B ls from (k * chunk - from + j) ≡ record { index = first + k; location = location_from B (get_or ls k []) (part_from from k) j }
  unfolding site_from site_at list_of location_from part_from part_end chunk
  in_chunk_lem k j h =
      let x : (from + (k * 67108864 - from + j)) / 67108864 ≡ k = omega arith in
      let y : (from + (k * 67108864 - from + j)) % 67108864 ≡ from - k * 67108864 + j = omega arith in
      rw (x, y)

  chunk_runs : (k : ℕ) → runs next_site (site_from first B ls from) (k * chunk - from) (part_end end k - part_from from k) ≡ chunk_plan first B from end k (get_or ls k [])
  unfolding chunk_plan pieces
  chunk_runs k =
      let b = k * chunk - from in
      let n = part_end end k - part_from from k in
      ap (λ (p : ℕ). runs next_site (site_from first B ls from) p n) (sym (add-zero b))
      ∙ runs_in_chunk (first + k) b (site_from first B ls from) (location_from B (get_or ls k []) (part_from from k)) 0 n (λ j a l. in_chunk_lem k j (omega arith))

  -- the last place of chunk k, and the first of the next: "No piece crosses a chunk's edge"
  pub edge : (k p : ℕ) → suc p ≡ suc k * chunk - from → Parts next_site (site_from first B ls from) p
  unfolding next_site site_from site_at chunk
  edge k p h =
      let x : (from + p) / 67108864 ≡ k = omega arith in
      let y : (from + suc p) / 67108864 ≡ suc k = omega arith in
      rw (x, y, ne_eqb (first + k) (first + suc k) (λ e. omega arith))

  chunks_runs : (k : ℕ) (rest : List (List Record)) → ((j : ℕ) → get_or rest j [] ≡ get_or ls (k + j) []) → (from < end → end ≤ (k + length rest) * chunk)
      → runs next_site (site_from first B ls from) (k * chunk - from) (remaining from end k) ≡ chunk_plans first B from end k rest
  unfolding chunk_plans runs
  chunks_runs k [] same h = rw (none_remains from end k (λ l. omega (arith, h l)))
  chunks_runs k (rs ∷ rest) same h =
      go (dec_lt 0 (remaining from end (suc k)))
      (chunks_runs (suc k) rest (λ j. let e : suc k + j ≡ k + suc j = omega arith in same (suc j) ∙ ap (λ (i : ℕ). get_or ls i []) (sym e)) (λ l. omega (arith, h l)))
    where
      f : ℕ → Site
      f = site_from first B ls from

      n : ℕ
      n = part_end end k - part_from from k

      here : runs next_site f (k * chunk - from) n ≡ chunk_plan first B from end k rs
      here = chunk_runs k ∙ ap (chunk_plan first B from end k) (ap (λ (i : ℕ). get_or ls i []) (sym (add-zero k)) ∙ sym (same 0))

      go : Dec (0 < remaining from end (suc k)) → runs next_site f (suc k * chunk - from) (remaining from end (suc k)) ≡ chunk_plans first B from end (suc k) rest
          → runs next_site f (k * chunk - from) (remaining from end k) ≡ chunk_plan first B from end k rs ++ chunk_plans first B from end (suc k) rest
      go (yes l) ih =
          let e = begins from end k l in
          rw (remains from end k)
          (runs_append next_site f (k * chunk - from) n (remaining from end (suc k)) (λ p a q. edge k p (q ∙ e))
          ∙ rw (here, e, ih))
      go (no l) ih =
          let z : remaining from end (suc k) ≡ 0 = omega arith in
          let m : remaining from end k ≡ n = omega (arith, remains from end k) in
          rw (m, here, ← ih, z) (sym (append-nil (chunk_plan first B from end k rs)))

  pub file_pieces_join : (from < end → end ≤ length ls * chunk) → file_pieces first B ls from (end - from) ≡ chunk_plans first B from end 0 ls
  unfolding file_pieces
  file_pieces_join h =
      let z : 0 * chunk - from ≡ 0 = omega arith in
      let w : end - from - 0 ≡ end - from = omega arith in
      rw (z, w) at (chunks_runs 0 ls (λ j. ap (λ (i : ℕ). get_or ls i []) (sym (zero-add j))) (λ l. omega (arith, h l)))

-- ---- the plan of a read that is cut

module _ (first B : ℕ) (ls : List (List Record)) (file_len start count : ℕ) where
  abbrev places : ℕ
  places = cut_to (file_end first file_len (length ls)) start count

  within : start < start + places → start + places ≤ length ls * chunk
  unfolding cut_to file_end
  within h = omega arith

  -- "the plan of m lists is the chunks' plans one after the other, places moved"
  pub file_plan_joins : file_plan first B ls file_len start count ≡ chunk_plans first B start (start + places) 0 ls
  unfolding file_plan
  file_plan_joins =
      let e : start + places - start ≡ places = omega arith in
      rw e at (file_pieces_join first B ls start (start + places) within)

-- each of them is the read plan of its chunk, cut to where the read ends there
pub chunk_plan_reads : (first B from end k : ℕ) (rs : List Record)
    → chunk_plan first B from end k rs ≡ map (in_chunk (first + k) (k * chunk - from)) (read_plan B rs (part_end end k) (part_from from k) end)
unfolding chunk_plan read_plan cut_to part_end
chunk_plan_reads first B from end k rs =
    let e : min end (min (end - k * chunk) chunk - part_from from k) ≡ min (end - k * chunk) chunk - part_from from k = omega arith in
    rw e

one_within : (first file_len start count : ℕ) → cut_to (file_end first file_len 1) start count ≤ chunk - start
unfolding cut_to file_end
one_within first file_len start count = omega arith

one_part : (start n l : ℕ) → n ≤ l - start → min (start + n - 0 * l) l - (start - 0 * l) ≡ n
one_part start n l h =
    let z : 0 * l ≡ 0 = omega arith in
    rw z (omega arith)

-- "with one list the plan is the read plan of that chunk", whose length is what the file has of it
pub one_list_plan : (first B : ℕ) (rs : List Record) (file_len start count : ℕ)
    → file_plan first B (rs ∷ []) file_len start count ≡ map (in_chunk first 0) (read_plan B rs (file_end first file_len 1) start count)
unfolding chunk_plans chunk_plan part_from part_end read_plan
one_list_plan first B rs file_len start count =
    let n = cut_to (file_end first file_len 1) start count in
    let i : first + 0 ≡ first = omega arith in
    let b : 0 * chunk - start ≡ 0 = omega arith in
    let f : start - 0 * chunk ≡ start = omega arith in
    file_plan_joins first B (rs ∷ []) file_len start count
    ∙ rw (one_part start n chunk (one_within first file_len start count), i, b, f) (append-nil (map (in_chunk first 0) (pieces B rs start n)))

-- the same as bytes: those of `read_plan`, for the length that the file has of the chunk
pub one_list_bytes : (bs : List ℕ) (first file_len B start count : ℕ) → file_bytes bs (length bs ∷ []) first file_len B start count ≡ plan_bytes bs first (file_end first file_len 1) B start count
unfolding file_bytes lists_in parts plan_bytes chunk_bytes
one_list_bytes bs first file_len B start count = rw (take_all (length bs) bs (omega arith)) (ap encode_pieces (one_list_plan first B (records bs) file_len start count))
