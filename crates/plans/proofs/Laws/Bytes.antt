-- The read plan in words of bytes: fetching by it from any store gives, for every place of the read, the byte that the list reads there.
-- Assumes nothing.
use Prim.Native.Nat.{ℕ, ◌+◌, ◌-◌, ◌^◌, ◌<◌, ◌≤◌, zero-le}
use native.Mathlib.Omega.{arith}
use native.Mathlib.Decide.{dec_lt}
use mathlib.Core.Path.{◌≡◌, sym, ap, ◌∙◌}
use mathlib.Core.List.{List, [], ◌∷◌, map}
use borrow.Author.Tests.{le-leb, lt-ltb, le-ltb}
use Rattle.codec.specs.All.{All, Bytes}
use Rattle.slices.specs.Limits.{chunk}
use Rattle.slices.specs.Passes.{Passes}
use Rattle.slices.specs.Record.{records}
use Rattle.slices.proofs.Laws.Firsts.{records_fit}
use Rattle.runs.specs.Runs.{Run, Valid, IsRun}
use Rattle.runs.proofs.Laws.Walk.{value_at}
use Rattle.plans.specs.Location.{next_location, onward}
use Rattle.plans.specs.Piece.{in_chunk, pieces_in, store_runs, RunFits}
use Rattle.plans.specs.Plan.{cut_to, location_from, pieces, read_plan}
use Rattle.plans.specs.Store.{Store, fetch, reads, fetched}
use Rattle.plans.specs.Calls.{plan_bytes}
use Rattle.plans.proofs.Laws.Locations.{onward-zero, next_location_is}
use Rattle.plans.proofs.Laws.Pieces.{chunk_back, store_back}
use Rattle.plans.proofs.Laws.Divide.{pieces_divide}
use Rattle.plans.proofs.Laws.Fits.{plan_fits}
use Rattle.slices.specs.declared.Record.{Record}
use Rattle.plans.specs.declared.Location.{Location}

-- ---- one run

module _ (st : Store) (r : Run Location) (rs : List (Run Location)) (i : ℕ) where
  pub fetched_here : r.start ≤ i → i < r.start + r.len → fetched st (r ∷ rs) i ≡ fetch st (onward r.first (i - r.start))
  unfolding fetched
  fetched_here h k = rw (le-leb r.start i h, lt-ltb i (r.start + r.len) k)

  fetched_later : r.start + r.len ≤ i → fetched st (r ∷ rs) i ≡ fetched st rs i
  unfolding fetched
  fetched_later h = rw (le-leb r.start i (omega arith), le-ltb i (r.start + r.len) h)

-- the locations of a run follow from its first
run_location : (f : ℕ → Location) (at end : ℕ) (r : Run Location) → IsRun next_location f at r → at + r.len ≤ end → (p : ℕ) → at ≤ p → p < at + r.len
    → f p ≡ onward r.first (p - at)
run_location f at end r v h p l m =
    let e : at + (p - at) ≡ p = omega arith in
    let x = value_at next_location onward onward-zero next_location_is f at end (at + r.len) (record { some = omega (arith, v.some); inside = h; joins = v.inside }) (p - at) (omega arith) in
    rw v.first_is (rw e at x)

-- ---- a plan

-- the runs divide the places from `at` up to `end`; they need not be maximal
abbrev pub Divides : (ℕ → Location) → ℕ → ℕ → List (Run Location) → Type 0
Divides f at end [] = at ≡ end
Divides f at end (r ∷ rs) = IsRun next_location f at r × Divides f (at + r.len) end rs

valid_divides : (f : ℕ → Location) (at end : ℕ) (xs : List (Run Location)) → Valid next_location f at end xs → Divides f at end xs
valid_divides f at end [] v = v
valid_divides f at end (r ∷ xs) v = (v.0, valid_divides f (at + r.len) end xs v.2)

divides_le : (f : ℕ → Location) (at end : ℕ) (xs : List (Run Location)) → Divides f at end xs → at ≤ end
divides_le f at end [] v = omega arith
divides_le f at end (r ∷ xs) v = omega (arith, divides_le f (at + r.len) end xs v.1)

pub fetched_divided : (st : Store) (f : ℕ → Location) (at end : ℕ) (xs : List (Run Location)) → Divides f at end xs → (i : ℕ) → at ≤ i → i < end
    → fetched st xs i ≡ fetch st (f i)
fetched_divided st f at end [] v i l m = absurd (omega arith)
fetched_divided st f at end (r ∷ xs) v i l m = go (dec_lt i (at + r.len)) (fetched_divided st f (at + r.len) end xs v.1 i)
  where
    go : Dec (i < at + r.len) → (at + r.len ≤ i → i < end → fetched st xs i ≡ fetch st (f i)) → fetched st (r ∷ xs) i ≡ fetch st (f i)
    go (yes k) ih =
        let b = v.0.starts in
        let e : i - r.start ≡ i - at = omega arith in
        fetched_here st r xs i (omega arith) (omega arith)
        ∙ ap (λ (j : ℕ). fetch st (onward r.first j)) e
        ∙ ap (fetch st) (sym (run_location f at end r v.0 (divides_le f (at + r.len) end xs v.1) i l k))
    go (no k) ih =
        let b = v.0.starts in
        fetched_later st r xs i (omega arith) ∙ ih (omega arith) m

pub pieces_bytes : (st : Store) (B : ℕ) (rs : List Record) (start n i : ℕ) → i < n → fetched st (pieces B rs start n) i ≡ reads B st rs (start + i)
unfolding reads location_from
pieces_bytes st B rs start n i h =
    fetched_divided st (location_from B rs start) 0 n (pieces B rs start n) (valid_divides (location_from B rs start) 0 n (pieces B rs start n) (pieces_divide B rs start n)) i zero-le h

pub plan_bytes_lem : (st : Store) (B : ℕ) (rs : List Record) (l start count i : ℕ) → i < cut_to l start count
    → fetched st (read_plan B rs l start count) i ≡ reads B st rs (start + i)
unfolding read_plan
plan_bytes_lem st B rs l start count i h = pieces_bytes st B rs start (cut_to l start count) i h

-- ---- a plan's bytes

module _ (bs : List ℕ) (b : Bytes bs) (p : All Passes (records bs)) (index l B start count : ℕ) (g : index < 2 ^ 32) (h : l ≤ chunk) where
  fits : All RunFits (map (in_chunk index 0) (read_plan B (records bs) l start count))
  fits = plan_fits B (records bs) p (records_fit bs b) index g l start count h

  -- the bytes of a plan are read back as the plan, with the chunk's index in each run
  pub plan_back : pieces_in (plan_bytes bs index l B start count) ≡ map (in_chunk index 0) (read_plan B (records bs) l start count)
  unfolding plan_bytes
  plan_back = chunk_back index 0 (read_plan B (records bs) l start count) fits

  plan_stored : store_runs (plan_bytes bs index l B start count) ≡ read_plan B (records bs) l start count
  unfolding plan_bytes
  plan_stored = store_back index (read_plan B (records bs) l start count) fits

  -- and fetch what the list reads
  pub plan_bytes_back : (st : Store) (i : ℕ) → i < cut_to l start count
      → fetched st (store_runs (plan_bytes bs index l B start count)) i ≡ reads B st (records bs) (start + i)
  plan_bytes_back st i k = rw plan_stored (plan_bytes_lem st B (records bs) l start count i k)
