-- What `compact` answers, case by case, and exactly when each refusal is given. Assumes nothing.
use Prim.Native.Nat.{ℕ, ◌<◌, ◌≤◌}
use native.Mathlib.Omega.{arith}
use native.Mathlib.Decide.{dec_lt}
use mathlib.Core.Path.{◌≡◌, sym, ap, ◌∙◌}
use mathlib.Core.Bool.{Bool, true, false, not}
use mathlib.Core.Logic.{◌↔◌}
use mathlib.Core.List.{List, [], ◌∷◌}
use lib.ListN.{length}
use borrow.Author.Tests.{lt-ltb, le-ltb}
use Rattle.slices.specs.Limits.{max_index}
use Rattle.slices.specs.Record.{records, count}
use Rattle.outcomes.specs.Numbers as number
use Rattle.outcomes.specs.Outcome.{refused, done, refusal, first_of, NoneHolds, Given, too_short}
use Rattle.slices.specs.Refusals.{check_outcome, checked}
use Rattle.outcomes.proofs.Laws.Outcome.{row_holds, row_passes, short_holds, short_passes, refused_exactly, answered_exactly}
use Rattle.slices.proofs.Laws.Record.{length-records}
use Rattle.slices.proofs.Laws.Refusals.{list_stops, list_lets}
use Rattle.blocks.specs.Blocks.{block_allowed, block_size_bad}
use Rattle.plans.specs.Calls.{past_index}
use Rattle.compaction.specs.Calls.{too_few, id_in_use, Both, both, delivered_both, later_rows, compact_rows, compact_outcome}
use Rattle.outcomes.specs.Outcome.{Refusal}
use Rattle.std.specs.Prelude.{Ok, Err}

-- ---- the outcome

module _ (bs : List ℕ) (index B k id plan_room list_room : ℕ) where
  pub compact_21 : max_index < index → compact_outcome bs index B k id plan_room list_room ≡ refused (refusal number.wrong_chunks 0)
  unfolding compact_outcome compact_rows past_index
  compact_21 i = row_holds _ _ _ _ _ (lt-ltb max_index index i)

  module _ (i : index ≤ max_index) (t : Bool) (h : t ≡ block_allowed B) where
    pub compact_8 : t ≡ false → compact_outcome bs index B k id plan_room list_room ≡ refused (refusal number.block_size 0)
    unfolding compact_outcome compact_rows past_index block_size_bad
    compact_8 e = row_passes _ _ _ _ _ (le-ltb max_index index i) ∙ row_holds _ _ _ _ _ (ap not (sym h ∙ e))

    module _ (e : t ≡ true) where
      pub compact_refused : (r : Refusal) → checked (check_outcome bs) ≡ Err r → compact_outcome bs index B k id plan_room list_room ≡ refused r
      unfolding compact_outcome compact_rows past_index block_size_bad
      compact_refused r g =
          row_passes _ _ _ _ _ (le-ltb max_index index i) ∙ row_passes _ _ _ _ _ (ap not (sym h ∙ e)) ∙ list_stops bs _ _ r g

      pub compact_accepted : (n : ℕ) → checked (check_outcome bs) ≡ Ok n
          → compact_outcome bs index B k id plan_room list_room ≡ first_of (later_rows (records bs) index B k id plan_room list_room) (done (both index B (records bs) k id))
      unfolding compact_outcome compact_rows past_index block_size_bad
      compact_accepted n g =
          row_passes _ _ _ _ _ (le-ltb max_index index i) ∙ row_passes _ _ _ _ _ (ap not (sym h ∙ e)) ∙ list_lets bs _ _ n g

  pub later_10 : count bs < k → first_of (later_rows (records bs) index B k id plan_room list_room) (done (both index B (records bs) k id)) ≡ refused (refusal number.too_few 0)
  unfolding later_rows too_few
  later_10 l = row_holds _ _ _ _ _ (rw (length-records bs) (lt-ltb (count bs) k l))

  module _ (l : k ≤ count bs) where
    enough : too_few (records bs) k ≡ false
    unfolding too_few
    enough = rw (length-records bs) (le-ltb (count bs) k l)

    pub later_9 : id_in_use id (records bs) ≡ true
        → first_of (later_rows (records bs) index B k id plan_room list_room) (done (both index B (records bs) k id)) ≡ refused (refusal number.id_in_use 0)
    unfolding later_rows
    later_9 u = row_passes _ _ _ _ _ enough ∙ row_holds _ _ _ _ _ u

    pub later_12 : id_in_use id (records bs) ≡ false
        → first_of (later_rows (records bs) index B k id plan_room list_room) (done (both index B (records bs) k id)) ≡ delivered_both (both index B (records bs) k id) plan_room list_room
    unfolding later_rows
    later_12 u = row_passes _ _ _ _ _ enough ∙ row_passes _ _ _ _ _ u

  pub compact_refused_exactly : (r : Refusal) → (compact_outcome bs index B k id plan_room list_room ≡ refused r) ↔ Given (compact_rows bs index B k id plan_room list_room) r
  unfolding compact_outcome
  compact_refused_exactly r = refused_exactly (both index B (records bs) k id) (compact_rows bs index B k id plan_room list_room) r

  pub compact_answered_exactly : (compact_outcome bs index B k id plan_room list_room ≡ done (both index B (records bs) k id)) ↔ NoneHolds (compact_rows bs index B k id plan_room list_room)
  unfolding compact_outcome
  compact_answered_exactly = answered_exactly (both index B (records bs) k id) (compact_rows bs index B k id plan_room list_room)

-- ---- the two buffers

module _ (b : Both) (plan_room list_room : ℕ) where
  pub short_plan : plan_room < length b.plan → delivered_both b plan_room list_room ≡ refused (refusal number.short_buffer 0)
  short_plan h = short_holds b.plan plan_room (done b) _ h

  -- whether the plan has room or not
  pub short_list : list_room < length b.list → delivered_both b plan_room list_room ≡ refused (refusal number.short_buffer 0)
  short_list l = go (dec_lt plan_room (length b.plan))
    where
      go : Dec (plan_room < length b.plan) → delivered_both b plan_room list_room ≡ refused (refusal number.short_buffer 0)
      go (yes h) = short_plan h
      go (no h) = short_passes b.plan plan_room (done b) (too_short b.list list_room ∷ []) (omega arith) ∙ short_holds b.list list_room (done b) [] l

  pub room_for_both : length b.plan ≤ plan_room → length b.list ≤ list_room → delivered_both b plan_room list_room ≡ done b
  unfolding first_of
  room_for_both h l = short_passes b.plan plan_room (done b) (too_short b.list list_room ∷ []) h ∙ short_passes b.list list_room (done b) [] l
