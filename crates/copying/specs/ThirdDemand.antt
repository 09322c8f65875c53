-- The third demand, as one claim about whole lists: "For records that pass the checks, laying later ones over earlier ones obeys its laws, for
-- every list of them, however long." proofs/Laws/ThirdDemand.antt proves it. Assumes nothing.
use Rattle.std.specs.Prelude.{ℕ, ◌^◌, ◌<◌, ◌≡◌, false, ◌↔◌, List, [], ◌++◌, length, Ok}
use Rattle.codec.specs.All.{All, Bytes}
use Rattle.outcomes.specs.Answers.{Answers, Front}
use Rattle.slices.specs.Limits.{chunk}
use Rattle.slices.specs.Record.{Fits, records}
use Rattle.slices.specs.Cover.{cover, over, SameCover}
use Rattle.slices.specs.Passes.{Passes}
use Rattle.views.specs.View.{tidied, tidied_bytes}
use Rattle.views.specs.Calls.{tidy_outcome}
use Rattle.blocks.specs.Blocks.{block_size_bad}
use Rattle.plans.specs.Calls.{past_index}
use Rattle.plans.specs.Store.{Store, reads}
use Rattle.compaction.specs.Compaction.{plan_bytes, new_list_bytes}
use Rattle.compaction.specs.Calls.{wrote, too_few, id_in_use, compact_outcome, Compacts}
use Rattle.copying.specs.Copy.{Copied, copied}
use Rattle.slices.specs.declared.Record.{Record}
use Rattle.slices.specs.declared.Source.{Source}

-- the lists that it holds for: any number of records, also none, that are of 24 bytes and pass refusals 3 to 6
pub record Sound (rs : List Record) : Type 0 where
  pub pass : All Passes rs
  pub fit : All Fits rs

-- what compaction of a sound list is not refused: the chunk's index (21), the block size B (8), the new id, a number of 8 bytes (9), and k (10)
pub record Allowed (index B : ℕ) (rs : List Record) (k id : ℕ) : Type 0 where
  pub sound : Sound rs
  pub indexed : past_index index ≡ false
  pub block : block_size_bad B ≡ false
  pub number : id < 2 ^ 64
  pub new : id_in_use id rs ≡ false
  pub enough : too_few rs k ≡ false

pub record ThirdDemand : Type 0 where
  -- "Wherever a list is split in two, its cover is the second part's laid over the first's."
  pub split : (xs ys : List Record) (p : ℕ) → cover (xs ++ ys) p ≡ over (cover ys p) (cover xs p)
  -- "Laying over is associative,"
  pub associative : (a b c : Source) → over (over a b) c ≡ over a (over b c)
  -- "and the empty list changes nothing": laid over a list, and under it
  pub empty_over : (rs : List Record) (p : ℕ) → over (cover [] p) (cover rs p) ≡ cover rs p
  pub empty_under : (rs : List Record) (p : ℕ) → over (cover rs p) (cover [] p) ≡ cover rs p
  -- "Whichever run of records inside a list is replaced by its tidied run, and whatever stands before or after, every byte keeps its source."
  pub replaced : (xs ys zs : List Record) → Sound ys → (p : ℕ) → cover (xs ++ (tidied ys ++ zs)) p ≡ cover (xs ++ (ys ++ zs)) p
  -- "Two lists tidy to the same bytes exactly when they have the same cover"
  pub same_bytes : (xs ys : List Record) → Sound xs → Sound ys → (tidied_bytes xs ≡ tidied_bytes ys) ↔ SameCover xs ys
  -- "A list's tidied bytes are the records of its tidied list, one after the other;"
  pub tidied_records : (rs : List Record) → Sound rs → records (tidied_bytes rs) ≡ tidied rs
  -- "where the tidying call succeeds, they are the bytes it wrote, as many as it counted": of a list that is sound
  pub tidied_wrote : (bs : List ℕ) → Bytes bs → (before after : List ℕ) (n : ℕ) → Answers (tidy_outcome bs (length before)) before (Ok n) after
      → Sound (records bs) × Front (tidied_bytes (records bs)) n after
  -- "Where the compaction call succeeds, the plan and the new list are the bytes it wrote": of a compaction that is allowed
  pub compacted_wrote : (bs : List ℕ) → Bytes bs → (index B k id : ℕ) → id < 2 ^ 64 → (plan list plan' list' : List ℕ) (m n : ℕ)
      → Compacts (compact_outcome bs index B k id (length plan) (length list)) plan list (wrote m n) plan' list'
      → Allowed index B (records bs) k id × Front (plan_bytes index B (records bs) k) m plan' × Front (new_list_bytes (records bs) k id) n list'
  -- "Copying turns the store before it into the store after it, by the plan": there is such a store
  pub copying : (index B : ℕ) (rs : List Record) (k id : ℕ) (before : Store) → Copied index B rs k id before (copied index B rs k id before)
  -- "Old and new list, both with these records at the end, read the same byte at each position from the store after copying": for every index, k,
  -- new id, store and list of appended records. "For the calls, joined lists must be accepted together" (paper 02, L8): refusal 16 looks at the whole of one.
  pub compacted : (index B : ℕ) (rs : List Record) (k id : ℕ) → Allowed index B rs k id → (before after : Store) → Copied index B rs k id before after
      → (ys : List Record) (p : ℕ) → p < chunk → reads B after (rs ++ ys) p ≡ reads B after (records (new_list_bytes rs k id) ++ ys) p
  -- "The old list alone also reads from it what it read from the store before."
  pub old_reads : (index B : ℕ) (rs : List Record) (k id : ℕ) → Allowed index B rs k id → (before after : Store) → Copied index B rs k id before after
      → (p : ℕ) → reads B after rs p ≡ reads B before rs p
