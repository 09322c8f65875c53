-- What a read of one chunk answers, case by case, and exactly when each refusal of `read_plan` is given. Assumes nothing.
use Prim.Native.Nat.{ℕ, ◌-◌, ◌<◌, ◌≤◌}
use mathlib.Core.Path.{◌≡◌, sym, ap, ◌∙◌}
use mathlib.Core.Bool.{Bool, true, false, not}
use mathlib.Core.Logic.{◌↔◌}
use mathlib.Core.List.{List}
use lib.ListN.{length}
use borrow.Author.Tests.{lt-ltb, le-ltb}
use Rattle.slices.specs.Limits.{chunk, max_index}
use Rattle.slices.specs.Record.{records}
use Rattle.outcomes.specs.Numbers as number
use Rattle.outcomes.specs.Outcome.{Outcome, refused, done, refusal, first_of, delivered, NoneHolds, Given}
use Rattle.slices.specs.Refusals.{list_rows, check_outcome, checked, chunk_too_long}
use Rattle.outcomes.proofs.Laws.Outcome.{first_of-append, row_holds, row_passes, short_done, refused_exactly, answered_exactly}
use Rattle.slices.proofs.Laws.Refusals.{check_stops, check_lets}
use Rattle.blocks.specs.Blocks.{block_allowed, block_size_bad}
use Rattle.plans.specs.Piece.{chunk_bytes}
use Rattle.plans.specs.Plan.{pieces}
use Rattle.plans.specs.Inner.{Cut}
use Rattle.plans.specs.Calls.{past_index, plan_bytes, chunk_rows, read_rows, read_outcome}
use Rattle.plans.proofs.Laws.Walk.{plan_cut}
use Rattle.outcomes.specs.Outcome.{Refusal}
use Rattle.std.specs.Prelude.{Ok, Err}

-- ---- the refusals of every read of one chunk, whatever it does behind them

module _ {A : Type 0} (bs : List ℕ) (index l B : ℕ) (o : Outcome A) where
  pub chunk_7 : chunk < l → first_of (chunk_rows bs index l B) o ≡ refused (refusal number.chunk_too_long 0)
  unfolding chunk_rows chunk_too_long
  chunk_7 h = row_holds _ _ _ _ _ (lt-ltb chunk l h)

  module _ (h : l ≤ chunk) where
    pub chunk_21 : max_index < index → first_of (chunk_rows bs index l B) o ≡ refused (refusal number.wrong_chunks 0)
    unfolding chunk_rows chunk_too_long past_index
    chunk_21 g = row_passes _ _ _ _ _ (le-ltb chunk l h) ∙ row_holds _ _ _ _ _ (lt-ltb max_index index g)

    module _ (g : index ≤ max_index) (t : Bool) (b : t ≡ block_allowed B) where
      pub chunk_8 : t ≡ false → first_of (chunk_rows bs index l B) o ≡ refused (refusal number.block_size 0)
      unfolding chunk_rows chunk_too_long past_index block_size_bad
      chunk_8 e =
          row_passes _ _ _ _ _ (le-ltb chunk l h) ∙ row_passes _ _ _ _ _ (le-ltb max_index index g) ∙ row_holds _ _ _ _ _ (ap not (sym b ∙ e))

      module _ (e : t ≡ true) where
        list_decides : first_of (chunk_rows bs index l B) o ≡ first_of (list_rows bs) o
        unfolding chunk_rows chunk_too_long past_index block_size_bad
        list_decides =
            row_passes _ _ _ _ _ (le-ltb chunk l h) ∙ row_passes _ _ _ _ _ (le-ltb max_index index g) ∙ row_passes _ _ _ _ _ (ap not (sym b ∙ e))

        pub chunk_refused : (r : Refusal) → checked (check_outcome bs) ≡ Err r → first_of (chunk_rows bs index l B) o ≡ refused r
        chunk_refused r k = list_decides ∙ check_stops bs o r k

        pub chunk_accepted : (n : ℕ) → checked (check_outcome bs) ≡ Ok n → first_of (chunk_rows bs index l B) o ≡ o
        chunk_accepted n k = list_decides ∙ check_lets bs o n k

-- ---- those of `read_plan`

module _ (bs : List ℕ) (index l B start count room : ℕ) where
  -- only 12 comes behind them
  pub read_is : read_outcome bs index l B start count room ≡ first_of (chunk_rows bs index l B) (delivered (plan_bytes bs index l B start count) room)
  unfolding read_outcome read_rows
  read_is = first_of-append (chunk_rows bs index l B) _ _

  -- and it does not come where there is room
  pub read_fits : length (plan_bytes bs index l B start count) ≤ room → read_outcome bs index l B start count room ≡ first_of (chunk_rows bs index l B) (done (plan_bytes bs index l B start count))
  read_fits h = read_is ∙ ap (first_of (chunk_rows bs index l B)) (short_done (plan_bytes bs index l B start count) room h)

  pub read_7 : chunk < l → read_outcome bs index l B start count room ≡ refused (refusal number.chunk_too_long 0)
  read_7 h = read_is ∙ chunk_7 bs index l B _ h

  module _ (h : l ≤ chunk) where
    pub read_21 : max_index < index → read_outcome bs index l B start count room ≡ refused (refusal number.wrong_chunks 0)
    read_21 g = read_is ∙ chunk_21 bs index l B _ h g

    module _ (g : index ≤ max_index) (t : Bool) (b : t ≡ block_allowed B) where
      pub read_8 : t ≡ false → read_outcome bs index l B start count room ≡ refused (refusal number.block_size 0)
      read_8 e = read_is ∙ chunk_8 bs index l B _ h g t b e

      module _ (e : t ≡ true) where
        pub read_refused : (r : Refusal) → checked (check_outcome bs) ≡ Err r → read_outcome bs index l B start count room ≡ refused r
        read_refused r k = read_is ∙ chunk_refused bs index l B _ h g t b e r k

        pub read_accepted : (n : ℕ) → checked (check_outcome bs) ≡ Ok n → (from end : ℕ) → Cut l start count from end
            → read_outcome bs index l B start count room ≡ delivered (chunk_bytes index 0 (pieces B (records bs) from (end - from))) room
        unfolding plan_bytes
        read_accepted n k from end c = read_is ∙ chunk_accepted bs index l B _ h g t b e n k ∙ rw (plan_cut B (records bs) l start count from end c)

  -- `read_plan` is refused with a number at a place exactly when that row of its table holds and no row before it does
  pub read_refused_exactly : (r : Refusal) → (read_outcome bs index l B start count room ≡ refused r) ↔ Given (read_rows bs index l B start count room) r
  unfolding read_outcome
  read_refused_exactly r = refused_exactly (plan_bytes bs index l B start count) (read_rows bs index l B start count room) r

  -- it answers exactly when no row holds
  pub read_answered_exactly : (read_outcome bs index l B start count room ≡ done (plan_bytes bs index l B start count)) ↔ NoneHolds (read_rows bs index l B start count room)
  unfolding read_outcome
  read_answered_exactly = answered_exactly (plan_bytes bs index l B start count) (read_rows bs index l B start count room)
