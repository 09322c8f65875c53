-- The compaction law, over the bytes of the plan and of the new list: once the plan has been copied out, the old list and the new one, both
-- with any records appended, read the same byte at every position; and the old list alone reads what it read before. Assumes nothing.
use Prim.Native.Nat.{ℕ, ◌<◌}
use native.Mathlib.Nat.{le_refl}
use mathlib.Core.Path.{◌≡◌}
use mathlib.Core.Bool.{Bool, true, false, cond}
use mathlib.Core.List.{List, [], ◌++◌, map}
use lib.ListN.{take}
use Rattle.codec.specs.All.{All}
use Rattle.slices.specs.Limits.{chunk}
use Rattle.slices.specs.Record.{Fits, records}
use Rattle.slices.specs.Passes.{Passes}
use Rattle.plans.specs.Calls.{past_index}
use Rattle.plans.specs.Piece.{in_chunk, store_runs, RunFits}
use Rattle.plans.specs.Plan.{read_plan}
use Rattle.plans.specs.Store.{Store, reads}
use Rattle.plans.proofs.Laws.Pieces.{store_back}
use Rattle.plans.proofs.Laws.Fits.{index_fits, plan_fits}
use Rattle.compaction.specs.Span.{first_covered, covers_nothing}
use Rattle.compaction.specs.Compaction.{extent, plan_of, compaction_plan, plan_bytes, new_list_bytes}
use Rattle.copying.specs.Copy.{Copies, Copied}
use Rattle.copying.specs.ThirdDemand.{Sound, Allowed}
use Rattle.codec.proofs.Laws.All.{all_take}
use Rattle.compaction.proofs.Laws.Fresh.{not_in_use}
use Rattle.copying.proofs.Laws.Reads.{pieces_old, pieces_law}
use Rattle.compaction.proofs.Laws.NewList.{new_list_back}
use Rattle.slices.specs.declared.Record.{Record}

plan_of_fits : (index : ℕ) → past_index index ≡ false → (B : ℕ) (xs : List Record) → All Passes xs → All Fits xs → All RunFits (map (in_chunk index 0) (plan_of B xs))
unfolding plan_of
plan_of_fits index g B xs h f = go (covers_nothing xs)
  where
    go : (x : Bool) → All RunFits (map (in_chunk index 0) (cond x [] (read_plan B xs chunk (first_covered xs) (extent xs))))
    go true = tt
    go false = plan_fits B xs h f index (index_fits index g) chunk (first_covered xs) (extent xs) (le_refl chunk)

-- the bytes of the plan are read back
pub plan_back : (index : ℕ) → past_index index ≡ false → (B : ℕ) (rs : List Record) (k : ℕ) → Sound rs → store_runs (plan_bytes index B rs k) ≡ compaction_plan B rs k
unfolding plan_bytes compaction_plan
plan_back index g B rs k s =
    store_back index (compaction_plan B rs k) (plan_of_fits index g B (take k rs) (all_take Passes k rs s.pass) (all_take Fits k rs s.fit))

module _ (index B : ℕ) (rs : List Record) (k id : ℕ) (w : Allowed index B rs k id) (st st' : Store) (c : Copied index B rs k id st st') where
  by_plan : Copies B id (extent (take k rs)) (compaction_plan B rs k) st st'
  by_plan = rw (plan_back index w.indexed B rs k w.sound) at c

  pub old_list_reads : (p : ℕ) → reads B st' rs p ≡ reads B st rs p
  old_list_reads p = pieces_old B rs k id (not_in_use id rs w.new).1 st st' by_plan p

  pub compaction_law : (ys : List Record) (p : ℕ) → p < chunk → reads B st' (rs ++ ys) p ≡ reads B st' (records (new_list_bytes rs k id) ++ ys) p
  compaction_law ys p h =
      let n = not_in_use id rs w.new in
      rw (new_list_back id n.0 w.number rs k w.sound.fit) (pieces_law B rs k id n.1 st st' by_plan n.0 ys p h)
