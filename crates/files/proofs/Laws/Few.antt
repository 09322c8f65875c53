-- How many pieces the plan of a file can have: four a record, two a list, and one a block. Assumes nothing.
use Prim.Native.Nat.{ℕ, suc, ◌+◌, ◌-◌, ◌*◌, ◌/◌, ◌<◌, ◌≤◌}
use native.Mathlib.Omega.{arith}
use native.Mathlib.Decide.{dec_le}
use mathlib.Core.Path.{◌≡◌}
use mathlib.Core.List.{List, [], ◌∷◌, map}
use lib.ListN.{length, take, drop, length-append, length-map, length-take, length-drop}
use Rattle.codec.specs.All.{All}
use Rattle.slices.specs.Accepts.{Accepts}
use Rattle.slices.specs.Limits.{record_size, max_records}
use Rattle.slices.specs.Record.{records, count}
use Rattle.slices.proofs.Laws.Record.{length-records}
use Rattle.runs.specs.Runs.{runs}
use Rattle.joined.specs.Lists.{total, parts}
use Rattle.plans.specs.Plan.{pieces}
use Rattle.plans.proofs.Laws.Few.{blocks_both, plan_most}
use Rattle.files.specs.File.{part_from, part_end, chunk_plan, chunk_plans}
use Rattle.files.proofs.Laws.Joins.{remaining, remains}
use Rattle.slices.specs.declared.Record.{Record}

module _ (first B from end : ℕ) (some : 0 < B) where
  none_few : (rs : List Record) (at n : ℕ) → n ≡ 0 → length (pieces B rs at n) ≤ 4 * length rs + 2 + n / B
  unfolding pieces runs
  none_few rs at n e = rw e (omega arith)

  chunk_few : (k : ℕ) (rs : List Record) → length (chunk_plan first B from end k rs) ≤ 4 * length rs + 2 + (part_end end k - part_from from k) / B
  unfolding chunk_plan
  chunk_few k rs = rw length-map (go (dec_le (part_from from k) (part_end end k)))
    where
      go : Dec (part_from from k ≤ part_end end k)
          → length (pieces B rs (part_from from k) (part_end end k - part_from from k)) ≤ 4 * length rs + 2 + (part_end end k - part_from from k) / B
      go (yes l) = plan_most B (part_end end k) some rs (part_from from k) l
      go (no l) = none_few rs (part_from from k) (part_end end k - part_from from k) (omega arith)

  pub plans_few : (k : ℕ) (ls : List (List Record)) → length (chunk_plans first B from end k ls) ≤ 4 * total (map length ls) + 2 * length ls + remaining from end k / B
  unfolding chunk_plans total
  plans_few k [] = omega arith
  plans_few k (rs ∷ ls) =
      let a = length-append (chunk_plan first B from end k rs) (chunk_plans first B from end (suc k) ls) in
      let b = rw (← remains from end k) at (blocks_both B (part_end end k - part_from from k) (remaining from end (suc k)) some) in
      omega (arith, a, b, chunk_few k rs, plans_few (suc k) ls)

-- ---- of joined lists

pub records_fill : (ns bs : List ℕ) → total ns ≤ length bs → total (map length (map records (parts ns bs))) ≤ total ns / record_size
unfolding parts total count
records_fill [] bs h = omega arith
records_fill (n ∷ ns) bs h =
    let e : length (take n bs) ≡ n = simp length-take (omega arith) in
    let t = records_fill ns (drop n bs) (simp length-drop (omega arith)) in
    omega (arith, length-records (take n bs), e, t)

pub records_most : (ns bs : List ℕ) → All Accepts (parts ns bs) → total (map length (map records (parts ns bs))) ≤ max_records * length ns
unfolding parts total
records_most [] bs h = omega arith
records_most (n ∷ ns) bs h = omega (arith, length-records (take n bs), h.0.few, records_most ns (drop n bs) h.1)
