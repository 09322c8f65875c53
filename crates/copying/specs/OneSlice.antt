-- "One slice, one size" (paper 02, L8), as one claim about the calls' lists: what an accepted list is, and that what the calls write is accepted again.
-- proofs/Laws/OneSlice.antt proves it. Assumes nothing.
use Rattle.std.specs.Prelude.{ℕ, ◌+◌, ◌*◌, ◌/◌, ◌%◌, ◌^◌, ◌<◌, ◌≤◌, ◌≡◌, false, ◌≢◌, List, ◌++◌, length, take, Ok}
use Rattle.codec.specs.All.{Bytes}
use Rattle.outcomes.specs.Answers.{Answers}
use Rattle.slices.specs.Limits.{record_size, chunk}
use Rattle.slices.specs.Record.{record_at, count, records}
use Rattle.slices.specs.Accepts.{Accepts}
use Rattle.slices.specs.OneSize.{OneSize}
use Rattle.views.specs.View.{view, tidied}
use Rattle.views.specs.Calls.{tidy_outcome}
use Rattle.plans.specs.Location.{location}
use Rattle.compaction.specs.Compaction.{new_list_bytes}
use Rattle.compaction.specs.Calls.{wrote, id_in_use, compact_outcome, Compacts}
use Rattle.slices.specs.declared.Record.{Record}
use Rattle.slices.specs.declared.Source.TheVariants.{Byte}

pub record OneSlice : Type 0 where
  -- any two records of an accepted list with one id, not 0, have one size, also empty ones
  pub two_records : (bs : List ℕ) → Accepts bs → (i j : ℕ) → i < count bs → j < count bs → (record_at bs i).id ≢ 0 → (record_at bs j).id ≡ (record_at bs i).id
      → (record_at bs j).size ≡ (record_at bs i).size
  -- the view keeps the sizes of the slices, the tidied list does in place of its records in any list
  pub viewed : (rs : List Record) → OneSize rs → (l : ℕ) → l ≤ chunk → OneSize (view rs l)
  pub replaced : (xs ys zs : List Record) → OneSize (xs ++ (ys ++ zs)) → OneSize (xs ++ (tidied ys ++ zs))
  -- the tidied list that the call wrote is accepted
  pub tidied_again : (bs : List ℕ) → Bytes bs → (before after : List ℕ) (n : ℕ) → Answers (tidy_outcome bs (length before)) before (Ok n) after → Accepts (take n after)
  -- the new list that compaction wrote is accepted
  pub compacted_again : (bs : List ℕ) → Bytes bs → (index B k id : ℕ) → id < 2 ^ 64 → (plan list plan' list' : List ℕ) (m n : ℕ)
      → Compacts (compact_outcome bs index B k id (length plan) (length list)) plan list (wrote m n) plan' list' → Accepts (take n list')
  -- "For the calls, joined lists must be accepted together": where the old list with records appended is accepted, and the new id is new in it, the
  -- new list with them is
  pub joined : (bs ys : List ℕ) → Bytes bs → Bytes ys → length bs % record_size ≡ 0 → length ys % record_size ≡ 0 → Accepts (bs ++ ys) → (k id : ℕ) → k ≤ count bs
      → id_in_use id (records (bs ++ ys)) ≡ false → id < 2 ^ 64 → Accepts (new_list_bytes (records bs) k id ++ ys)
  -- the definition of a plan still joins two sizes of one slice: a byte of a block that is whole in both lies in one object
  pub shared : (B i s t o : ℕ) → o / B * B + B ≤ s → o / B * B + B ≤ t → location B (Byte i s o) ≡ location B (Byte i t o)
