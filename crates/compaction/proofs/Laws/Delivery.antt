-- What `compact` writes, by the numbers that its steps find: the plan of the first records and the new list, and how long they are.
-- Assumes nothing.
use Prim.Native.Nat.{ℕ, ◌+◌, ◌-◌, ◌*◌, ◌%◌, ◌<◌, ◌≤◌}
use native.Mathlib.Omega.{arith}
use native.Mathlib.Nat.{zero-add}
use mathlib.Core.Path.{◌≡◌, refl, sym, ap, ◌∙◌}
use mathlib.Core.List.{List, ◌++◌}
use lib.ListN.{length, take, drop, length-append, length-take, length-drop}
use Rattle.codec.specs.All.{All, Bytes}
use Rattle.codec.specs.Splice.{splice}
use Rattle.codec.proofs.Laws.Splice.{splices_2}
use Rattle.slices.specs.Limits.{record_size, max_records}
use Rattle.outcomes.specs.Numbers as number
use Rattle.outcomes.specs.Answers.{Answers}
use Rattle.outcomes.specs.Outcome.{refused, refusal, delivered}
use Rattle.std.specs.Prelude.{Result, Ok, Err}
use Rattle.outcomes.specs.Outcome.{Refusal}
use Rattle.slices.specs.Passes.{Passes}
use Rattle.slices.specs.Record.{encode_all, count, records}
use Rattle.plans.specs.Piece.{chunk_bytes}
use Rattle.plans.specs.Plan.{pieces}
use Rattle.compaction.specs.Compaction.{compaction_plan, plan_bytes, new_list, new_list_bytes}
use Rattle.compaction.specs.Calls.{wrote, both, delivered_both, Compacts}
use Rattle.compaction.specs.Inner.{stand_for, Ends}
use Rattle.codec.proofs.Laws.All.{all_take}
use Rattle.slices.proofs.Laws.Firsts.{encode-append, firsts_records, rest_bytes}
use Rattle.compaction.proofs.Laws.Calls.{short_plan, short_list, room_for_both}
use Rattle.outcomes.proofs.Laws.Answers.{replies_refused, replies_done, short_said, done_said}

-- what is put behind what stands at the front
pub put_behind : (out o₁ o₂ a b : List ℕ) (i : ℕ) → i ≡ length a → length a ≤ length out → o₁ ≡ splice out 0 a → o₂ ≡ splice o₁ i b → o₂ ≡ splice out 0 (a ++ b)
put_behind out o₁ o₂ a b i e h e₁ e₂ = splices_2 out 0 a b i (sym e) (omega arith) e₁ (e₂ ∙ ap (λ (n : ℕ). splice o₁ n b) (sym (zero-add i)))

-- of a list that has few enough records, the first ones are few enough
pub firsts_few : (bs : List ℕ) (n : ℕ) → count bs ≤ max_records → count (take n bs) ≤ max_records
unfolding count
firsts_few bs n h = omega (arith, length-take n bs)

module _ (bs : List ℕ) (b : Bytes bs) (whole : length bs % record_size ≡ 0) (k : ℕ) (h : k ≤ count bs) where
  -- the bytes of the first k records
  abbrev pub first_bytes : List ℕ
  first_bytes = take (k * record_size) bs

  pub firsts_pass : All Passes (records bs) → All Passes (records first_bytes)
  firsts_pass p = rw (firsts_records bs b whole k h) (all_take Passes k (records bs) p)

  module _ (from end : ℕ) (e : Ends (records first_bytes) from end) (index B id : ℕ) where
    plan_is : plan_bytes index B (records bs) k ≡ chunk_bytes index 0 (pieces B (records first_bytes) from (end - from))
    unfolding plan_bytes compaction_plan
    plan_is = ap (chunk_bytes index 0) (rw (← firsts_records bs b whole k h) (e.plan B))

    list_is : new_list_bytes (records bs) k id ≡ encode_all (stand_for from end id) ++ drop (k * record_size) bs
    unfolding new_list_bytes new_list
    list_is = rw (← firsts_records bs b whole k h, e.new id, encode-append, rest_bytes bs b whole k h)

    -- m bytes for the new record
    module _ (m : ℕ) (hm : m ≡ length (encode_all (stand_for from end id))) where
      list_length : length (new_list_bytes (records bs) k id) ≡ m + (length bs - k * record_size)
      list_length = ap length list_is ∙ length-append (encode_all (stand_for from end id)) (drop (k * record_size) bs) ∙ rw (hm, length-drop (k * record_size) bs)

      module _ (plan list : List ℕ) where
        pub first_short_list : length list < m + (length bs - k * record_size)
            → delivered_both (both index B (records bs) k id) (length plan) (length list) ≡ refused (refusal number.short_buffer 0)
        unfolding both
        first_short_list g = short_list (both index B (records bs) k id) (length plan) (length list) (omega (arith, list_length))

        -- what was answered for the plan
        module _ (l : m + (length bs - k * record_size) ≤ length list) (plan' : List ℕ) (x : Result ℕ Refusal)
            (a : Answers (delivered (chunk_bytes index 0 (pieces B (records first_bytes) from (end - from))) (length plan)) plan x plan') where
          pub first_refused : (r : Refusal) → x ≡ Err r
              → Compacts (delivered_both (both index B (records bs) k id) (length plan) (length list)) plan list (Err r) plan' list
          unfolding both
          first_refused r e =
              let y = short_said (chunk_bytes index 0 (pieces B (records first_bytes) from (end - from))) plan plan' x a r e in
              replies_refused _ _ _ _ (short_plan (both index B (records bs) k id) (length plan) (length list) (omega (arith, ap length plan_is, y.0))) y.1 (y.2, (refl, tt))

          pub first_done : (n : ℕ) → x ≡ Ok n → (list' : List ℕ) → list' ≡ splice list 0 (encode_all (stand_for from end id) ++ drop (k * record_size) bs)
              → Compacts (delivered_both (both index B (records bs) k id) (length plan) (length list)) plan list (wrote n (m + (length bs - k * record_size))) plan' list'
          unfolding both
          first_done n e list' q =
              let y = done_said (chunk_bytes index 0 (pieces B (records first_bytes) from (end - from))) plan plan' x a n e in
              replies_done _ (both index B (records bs) k id) _ _
              (room_for_both (both index B (records bs) k id) (length plan) (length list) (omega (arith, ap length plan_is, y.0)) (omega (arith, list_length)))
              (rw (plan_is, list_length, y.1)) (y.2 ∙ ap (splice plan 0) (sym plan_is), (q ∙ ap (splice list 0) (sym list_is), tt))
