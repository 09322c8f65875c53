-- The runs of a plan, one after the other. Assumes nothing.
use Prim.Native.Nat.{ℕ, ◌-◌, ◌/◌, ◌%◌, ◌^◌, ◌<◌, ◌≤◌}
use native.Mathlib.Omega.{arith}
use native.Mathlib.Nat.{add-zero}
use native.Mathlib.Decide.{dec_lt}
use mathlib.Core.Path.{◌≡◌, ap}
use mathlib.Core.List.{List, [], ◌∷◌, map, flat_map}
use Rattle.runs.specs.Runs.{Run, runs}
use Rattle.runs.specs.Inner.{Leads, earlier}
use Rattle.runs.proofs.Laws.Runs.{runs_earlier}
use Rattle.plans.specs.Location.{location_at, next_location}
use Rattle.plans.specs.Piece.{encode_run, encode_pieces, in_chunk, chunk_bytes}
use Rattle.plans.specs.Plan.{cut_to, location_from, pieces, read_plan}
use Rattle.plans.specs.Inner.{pieces_left, front_bytes, Cut}
use Rattle.slices.specs.declared.Record.{Record}
use Rattle.plans.specs.declared.Location.{Location}

module _ (B : ℕ) (rs : List Record) (front from end : ℕ) where
  pub left_more : (p : ℕ) (a : Location) (e : ℕ) → Leads next_location (location_at B rs) p end a e
      → pieces_left B rs front from end p
      ≡ in_chunk (front / 2 ^ 32) (front % 2 ^ 32) (record { start = p - from; len = e - p; first = a }) ∷ pieces_left B rs front from end e
  unfolding pieces_left earlier
  left_more p a e l = ap (λ (xs : List (Run Location)). map (in_chunk (front / 2 ^ 32) (front % 2 ^ 32)) (map (earlier from) xs)) l.splits

  pub left_none : (p : ℕ) → end ≤ p → pieces_left B rs front from end p ≡ []
  unfolding pieces_left runs
  left_none p h =
      let e : end - p ≡ 0 = omega arith in
      rw e

  -- from its first position on it is the plan
  pub left_all : map (earlier from) (runs next_location (location_at B rs) from (end - from)) ≡ pieces B rs from (end - from)
  unfolding pieces location_from
  left_all = rw (runs_earlier next_location from (location_at B rs) 0 (end - from), add-zero)

  pub left_bytes : flat_map encode_run (pieces_left B rs front from end from) ≡ front_bytes front (pieces B rs from (end - from))
  unfolding pieces_left chunk_bytes encode_pieces
  left_bytes = ap (λ (xs : List (Run Location)). flat_map encode_run (map (in_chunk (front / 2 ^ 32) (front % 2 ^ 32)) xs)) left_all

-- a read that is cut to the chunk length
pub plan_cut : (B : ℕ) (rs : List Record) (l start count from end : ℕ) → Cut l start count from end
    → read_plan B rs l start count ≡ pieces B rs from (end - from)
unfolding read_plan pieces runs
plan_cut B rs l start count from end c = go (dec_lt from end)
  where
    go : Dec (from < end) → pieces B rs start (cut_to l start count) ≡ pieces B rs from (end - from)
    go (yes h) = rw (← c.size, c.starts h)
    go (no h) =
        let e : end - from ≡ 0 = omega (arith, c.order) in
        rw (← c.size, e)
