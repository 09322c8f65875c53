-- The third demand holds. Assumes nothing.
use Prim.Native.Nat.{ℕ}
use mathlib.Core.Path.{◌≡◌}
use mathlib.Core.List.{List, []}
use Rattle.slices.specs.Record.{records}
use Rattle.slices.specs.Cover.{cover, over}
use Rattle.slices.proofs.Laws.Cover.{cover-append, over_assoc, over_nothing_left, over_nothing_right}
use Rattle.slices.proofs.Laws.Record.{records_back}
use Rattle.views.specs.View.{tidied, tidied_bytes}
use Rattle.views.proofs.Laws.Fits.{tidied_fits}
use Rattle.views.proofs.Laws.Tidied.{cover_replaced, tidied_same_bytes}
use lib.ListN.{take}
use Rattle.plans.specs.Piece.{store_runs}
use Rattle.plans.specs.Store.{Store}
use Rattle.compaction.specs.Compaction.{extent, plan_bytes}
use Rattle.copying.specs.Copy.{Copied, copied}
use Rattle.copying.proofs.Laws.Copy.{copy_copies}
use Rattle.copying.specs.ThirdDemand.{Sound, ThirdDemand}
use Rattle.copying.proofs.Laws.Compaction.{compaction_law, old_list_reads}
use Rattle.copying.proofs.Laws.Answered.{tidied_wrote, compacted_wrote}
use Rattle.slices.specs.declared.Record.{Record}

-- the empty list, laid over another or under it
empty_over : (rs : List Record) (p : ℕ) → over (cover [] p) (cover rs p) ≡ cover rs p
unfolding cover
empty_over rs p = over_nothing_left (cover rs p)

empty_under : (rs : List Record) (p : ℕ) → over (cover rs p) (cover [] p) ≡ cover rs p
unfolding cover
empty_under rs p = over_nothing_right (cover rs p)

tidied_records : (rs : List Record) → Sound rs → records (tidied_bytes rs) ≡ tidied rs
unfolding tidied_bytes
tidied_records rs h = records_back (tidied rs) (tidied_fits rs h.pass h.fit)

copying : (index B : ℕ) (rs : List Record) (k id : ℕ) (before : Store) → Copied index B rs k id before (copied index B rs k id before)
unfolding copied
copying index B rs k id before = copy_copies B id (extent (take k rs)) before (store_runs (plan_bytes index B rs k))

pub third_demand : ThirdDemand
third_demand =
    record {
      split = cover-append;
      associative = over_assoc;
      empty_over = empty_over;
      empty_under = empty_under;
      replaced = λ xs ys zs h p. cover_replaced xs ys zs h.pass p;
      same_bytes = λ xs ys h k. tidied_same_bytes xs ys h.pass k.pass h.fit k.fit;
      tidied_records = tidied_records;
      tidied_wrote = tidied_wrote;
      compacted_wrote = compacted_wrote;
      copying = copying;
      compacted = compaction_law;
      old_reads = old_list_reads;
    }
