-- No piece of a file's plan crosses a chunk's edge, and each has the index of its chunk. Assumes nothing.
use Prim.Native.Nat.{ℕ, zero, suc, ◌+◌, ◌-◌, ◌<◌}
use native.Mathlib.Omega.{arith}
use mathlib.Core.Path.{◌≡◌, sym, ap, ◌∙◌}
use mathlib.Core.List.{List, [], ◌∷◌}
use lib.Dec.{eqb}
use lib.ListN.{length}
use borrow.Author.Tests.{eqb-true}
use Rattle.codec.specs.All.{All}
use Rattle.codec.proofs.Laws.Bools.{and_both}
use Rattle.runs.specs.Runs.{Run, Valid, IsRun}
use Rattle.plans.specs.Location.{Site, next_site, next_location}
use Rattle.plans.specs.Plan.{cut_to}
use Rattle.files.specs.File.{site_at, site_from, file_end, file_plan, InOneChunk}
use Rattle.files.proofs.Laws.Bytes.{file_plan_divides}
use Rattle.slices.specs.declared.Record.{Record}

-- the places of one run are of one chunk
one_index : (f : ℕ → Site) (at : ℕ) (r : Run Site) → IsRun next_site f at r → (j : ℕ) → j < r.len → (f (at + j)).index ≡ (f at).index
unfolding next_site
one_index f at r v zero h = ap (λ (p : ℕ). (f p).index) (omega arith)
one_index f at r v (suc j) h =
    let e : at + suc j ≡ suc (at + j) = omega arith in
    let n = v.inside (at + j) (omega arith) (omega arith) in
    let same = eqb-true _ _ (and_both (eqb (f (at + j)).index (f (suc (at + j))).index) (next_location (f (at + j)).location (f (suc (at + j))).location) n).0 in
    ap (λ (p : ℕ). (f p).index) e ∙ sym same ∙ one_index f at r v j (omega arith)

module _ (first B : ℕ) (ls : List (List Record)) (start : ℕ) where
  run_inside : (at : ℕ) (r : Run Site) → IsRun next_site (site_from first B ls start) at r → InOneChunk first start r
  unfolding site_from site_at
  run_inside at r v =
      let l : at + (r.len - 1) ≡ r.start + r.len - 1 = omega (arith, v.some, v.starts) in
      let i = ap (λ (s : Site). s.index) v.first_is in
      record {
        from = rw v.starts i;
        to = i ∙ sym (rw l at (one_index (site_from first B ls start) at r v (r.len - 1) (omega (arith, v.some))));
      }

  runs_inside : (at end : ℕ) (xs : List (Run Site)) → Valid next_site (site_from first B ls start) at end xs → All (InOneChunk first start) xs
  runs_inside at end [] v = tt
  runs_inside at end (r ∷ xs) v = (run_inside at r v.0, runs_inside (at + r.len) end xs v.2)

  pub file_plan_edges : (file_len count : ℕ) → All (InOneChunk first start) (file_plan first B ls file_len start count)
  file_plan_edges file_len count = runs_inside 0 (cut_to (file_end first file_len (length ls)) start count) (file_plan first B ls file_len start count) (file_plan_divides first B ls file_len start count)
