-- What a read across chunks answers, case by case, and exactly when each refusal of `file_plan` is given, with the index of the list at fault.
-- Assumes nothing.
use Prim.Native.Nat.{ℕ, ◌-◌, ◌<◌, ◌≤◌}
use native.Mathlib.Omega.{arith}
use native.Mathlib.Decide.{dec_lt}
use mathlib.Core.Path.{◌≡◌, ap, ◌∙◌}
use mathlib.Core.Bool.{true, false}
use mathlib.Core.Logic.{◌↔◌}
use mathlib.Core.List.{List, map}
use lib.ListN.{length, length-map}
use borrow.Author.Tests.{lt-ltb, le-ltb}
use Rattle.codec.specs.All.{All}
use Rattle.slices.specs.Accepts.{Accepts}
use Rattle.slices.specs.Record.{records}
use Rattle.outcomes.specs.Numbers as number
use Rattle.outcomes.specs.Outcome.{OutcomeOf, refused, done, first_of, refusal, NoneHolds, Given}
use Rattle.outcomes.proofs.Laws.Outcome.{first_of-append, refused_exactly, answered_exactly}
use Rattle.blocks.specs.Blocks.{block_allowed, block_size_bad}
use Rattle.joined.specs.Lists.{parts}
use Rattle.joined.specs.Refusals.{of_list, lists_rows, lists_outcome, checked_lists, FirstRefusedList}
use Rattle.joined.proofs.Laws.Lists.{parts-length}
use Rattle.joined.proofs.Laws.Refusals.{lists_stops, lists_lets, lists_counted, lists_accepted_exactly, lists_refused_exactly, said_accepted, said_refused}
use Rattle.plans.specs.Inner.{Cut}
use Rattle.plans.specs.Piece.{encode_pieces}
use Rattle.plans.specs.Plan.{cut_to}
use Rattle.runs.specs.Runs.{runs}
use Rattle.files.specs.Calls.{wrong_chunks, lists_in, file_bytes, delivered_file, chunks_rows, file_rows, file_outcome}
use Rattle.files.specs.File.{file_end, file_pieces, file_plan, chunk_plans}
use Rattle.files.proofs.Laws.Joins.{file_pieces_join}
use Rattle.slices.specs.declared.Record.{Record}
use Rattle.joined.specs.Refusals.{ListRefusal}
use Rattle.std.specs.Prelude.{Ok, Err}

-- the plan of a read that goes from `from` up to `end`
plan_cut : (first B : ℕ) (ls : List (List Record)) (file_len start count from end : ℕ) → Cut (file_end first file_len (length ls)) start count from end
    → file_plan first B ls file_len start count ≡ chunk_plans first B from end 0 ls
unfolding file_plan file_pieces file_end runs
plan_cut first B ls file_len start count from end c = go (dec_lt from end) ∙ file_pieces_join first B ls from end (λ l. omega (arith, c.within))
  where
    go : Dec (from < end) → file_pieces first B ls start (cut_to (file_end first file_len (length ls)) start count) ≡ file_pieces first B ls from (end - from)
    go (yes h) = rw (← c.size, c.starts h)
    go (no h) =
        let e : end - from ≡ 0 = omega (arith, c.order) in
        rw (← c.size, e)

-- how many lists are accepted
pub accepted_count : (bs ns : List ℕ) (first n : ℕ) → checked_lists (lists_outcome first (parts ns bs)) ≡ Ok n → n ≡ length ns
accepted_count bs ns first n k = lists_counted first (parts ns bs) n (said_accepted _ n k) ∙ parts-length ns bs

-- ---- the refusals of every read across chunks, whatever it does behind them

module _ {A : Type 0} (bs ns : List ℕ) (first B : ℕ) (o : OutcomeOf ListRefusal A) where
  pub chunks_21 : wrong_chunks ns (length bs) first ≡ true → first_of (chunks_rows bs ns first B) o ≡ refused (of_list 0 (refusal number.wrong_chunks 0))
  unfolding chunks_rows first_of
  chunks_21 h = rw h

  module _ (h : wrong_chunks ns (length bs) first ≡ false) where
    pub chunks_8 : block_allowed B ≡ false → first_of (chunks_rows bs ns first B) o ≡ refused (of_list 0 (refusal number.block_size 0))
    unfolding chunks_rows first_of block_size_bad
    chunks_8 e = rw (h, e)

    module _ (e : block_allowed B ≡ true) where
      lists_decide : first_of (chunks_rows bs ns first B) o ≡ first_of (lists_rows first (parts ns bs)) o
      unfolding chunks_rows first_of block_size_bad
      lists_decide = rw (h, e)

      pub chunks_stop : (r : ListRefusal) → lists_outcome first (parts ns bs) ≡ refused r → first_of (chunks_rows bs ns first B) o ≡ refused r
      chunks_stop r k = lists_decide ∙ lists_stops first (parts ns bs) o r k

      pub chunks_refused : (r : ListRefusal) → checked_lists (lists_outcome first (parts ns bs)) ≡ Err r → first_of (chunks_rows bs ns first B) o ≡ refused r
      chunks_refused r k = chunks_stop r (said_refused _ r k)

      pub chunks_let : (n : ℕ) → lists_outcome first (parts ns bs) ≡ done n → first_of (chunks_rows bs ns first B) o ≡ o
      chunks_let n k = lists_decide ∙ lists_lets first (parts ns bs) o n k

-- ---- those of `file_plan`

module _ (bs ns : List ℕ) (first file_len B start count room : ℕ) where
  abbrev outcome : OutcomeOf ListRefusal (List ℕ)
  outcome = file_outcome bs ns first file_len B start count room

  -- only 12 comes behind them
  pub file_is : outcome ≡ first_of (chunks_rows bs ns first B) (delivered_file (file_bytes bs ns first file_len B start count) room)
  unfolding file_outcome file_rows
  file_is = first_of-append (chunks_rows bs ns first B) _ _

  -- and it does not come where there is room
  pub file_fits : length (file_bytes bs ns first file_len B start count) ≤ room → outcome ≡ first_of (chunks_rows bs ns first B) (done (file_bytes bs ns first file_len B start count))
  unfolding first_of
  file_fits l = file_is ∙ ap (first_of (chunks_rows bs ns first B)) (rw (le-ltb room (length (file_bytes bs ns first file_len B start count)) l))

  pub file_21 : wrong_chunks ns (length bs) first ≡ true → outcome ≡ refused (of_list 0 (refusal number.wrong_chunks 0))
  file_21 h = file_is ∙ chunks_21 bs ns first B _ h

  module _ (h : wrong_chunks ns (length bs) first ≡ false) where
    pub file_8 : block_allowed B ≡ false → outcome ≡ refused (of_list 0 (refusal number.block_size 0))
    file_8 e = file_is ∙ chunks_8 bs ns first B _ h e

    module _ (e : block_allowed B ≡ true) where
      -- "The first refused list, in chunk order, decides, and its chunk index is returned too"
      pub file_first_list : (r : ListRefusal) → FirstRefusedList first (parts ns bs) r → outcome ≡ refused r
      file_first_list r f = file_is ∙ chunks_stop bs ns first B _ h e r ((lists_refused_exactly first (parts ns bs) r).1 f)

      pub file_refused : (r : ListRefusal) → checked_lists (lists_outcome first (parts ns bs)) ≡ Err r → outcome ≡ refused r
      file_refused r k = file_is ∙ chunks_refused bs ns first B _ h e r k

      passes : All Accepts (parts ns bs) → outcome ≡ delivered_file (file_bytes bs ns first file_len B start count) room
      passes a = file_is ∙ chunks_let bs ns first B _ h e _ ((lists_accepted_exactly first (parts ns bs)).1 a)

      pub file_12 : All Accepts (parts ns bs) → room < length (file_bytes bs ns first file_len B start count) → outcome ≡ refused (of_list 0 (refusal number.short_buffer 0))
      unfolding first_of
      file_12 a l = passes a ∙ rw (lt-ltb room (length (file_bytes bs ns first file_len B start count)) l)

      pub file_done : All Accepts (parts ns bs) → length (file_bytes bs ns first file_len B start count) ≤ room → outcome ≡ done (file_bytes bs ns first file_len B start count)
      unfolding first_of
      file_done a l = passes a ∙ rw (le-ltb room (length (file_bytes bs ns first file_len B start count)) l)

      lists_counted_in : (n : ℕ) → lists_outcome first (parts ns bs) ≡ done n → n ≡ length (lists_in bs ns)
      unfolding lists_in
      lists_counted_in n k = rw length-map (lists_counted first (parts ns bs) n k)

      pub file_accepted : (n : ℕ) → checked_lists (lists_outcome first (parts ns bs)) ≡ Ok n → (from end : ℕ) → Cut (file_end first file_len n) start count from end
          → outcome ≡ delivered_file (encode_pieces (chunk_plans first B from end 0 (map records (parts ns bs)))) room
      unfolding file_bytes lists_in
      file_accepted n k from end c =
          let d = said_accepted _ n k in
          let l = lists_in bs ns in
          file_is
          ∙ chunks_let bs ns first B _ h e n d
          ∙ ap (λ (xs : List ℕ). delivered_file xs room) (ap encode_pieces (plan_cut first B l file_len start count from end (rw (lists_counted_in n d) at c)))

  -- `file_plan` is refused with a number, a place and an index exactly when that row of its table holds and no row before it does
  pub file_refused_exactly : (r : ListRefusal) → (outcome ≡ refused r) ↔ Given (file_rows bs ns first file_len B start count room) r
  unfolding file_outcome
  file_refused_exactly r = refused_exactly (file_bytes bs ns first file_len B start count) (file_rows bs ns first file_len B start count room) r

  -- it answers exactly when no row holds
  pub file_answered_exactly : (outcome ≡ done (file_bytes bs ns first file_len B start count)) ↔ NoneHolds (file_rows bs ns first file_len B start count room)
  unfolding file_outcome
  file_answered_exactly = answered_exactly (file_bytes bs ns first file_len B start count) (file_rows bs ns first file_len B start count room)
