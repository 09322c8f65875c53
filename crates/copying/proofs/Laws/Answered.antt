-- What `tidy` and `compact` have done where they succeed: the list is sound, the compaction allowed, and the bytes are those of the definitions.
-- Assumes nothing.
use Prim.Native.Nat.{ℕ, ◌^◌, ◌<◌}
use native.Mathlib.Omega.{arith}
use mathlib.Core.Path.{◌≡◌, refl, ◌∙◌, ap}
use mathlib.Core.Bool.{false}
use mathlib.Core.List.{List}
use lib.ListN.{length, take}
use Rattle.codec.specs.All.{Bytes}
use Rattle.slices.specs.Record.{records}
use Rattle.slices.specs.Accepts.{Accepts}
use Rattle.outcomes.specs.Outcome.{Outcome, refused, done, Row, first_of, NoneHolds}
use Rattle.outcomes.specs.Answers.{answer_of, left_in, Answers, Front}
use Rattle.outcomes.proofs.Laws.Answers.{front_of, said_wrote}
use Rattle.std.specs.Prelude.{Ok}
use Rattle.slices.specs.Refusals.{list_rows}
use Rattle.outcomes.proofs.Laws.Outcome.{done_none, done_is}
use Rattle.slices.proofs.Laws.Refusals.{none_accepts}
use Rattle.views.specs.View.{tidied_bytes}
use Rattle.views.specs.Calls.{tidy_rows, tidy_outcome}
use Rattle.compaction.specs.Calls.{wrote, Both, both, later_rows, compact_rows, compact_outcome, Compacts}
use Rattle.compaction.specs.declared.Compacted.{Compacted}
use Rattle.compaction.specs.Compaction.{plan_bytes, new_list_bytes}
use Rattle.compaction.proofs.Laws.Again.{compact_done_accepted}
use Rattle.copying.specs.ThirdDemand.{Sound, Allowed}
use Rattle.codec.proofs.Laws.All.{all_left, all_right}
use Rattle.slices.proofs.Laws.Firsts.{records_fit}

-- the two counts of an answer
counts : (m n p q : ℕ) → wrote m n ≡ wrote p q → (m ≡ p) × (n ≡ q)
counts m n p q h =
    let c : ◌≡◌ {A = Compacted} (record { plan = m; list = n }) (record { plan = p; list = q }) = cc in
    (ap (λ (x : Compacted). x.plan) c, ap (λ (x : Compacted). x.list) c)

-- a list that is not refused is sound
module _ (bs : List ℕ) (b : Bytes bs) where
  list_sound : NoneHolds (list_rows bs) → Sound (records bs)
  list_sound h = record { pass = (none_accepts bs h).pass; fit = records_fit bs b }

  pub tidied_wrote : (before after : List ℕ) (n : ℕ) → Answers (tidy_outcome bs (length before)) before (Ok n) after
      → Sound (records bs) × Front (tidied_bytes (records bs)) n after
  unfolding tidy_outcome tidy_rows
  tidied_wrote before after n a =
      let w = said_wrote (tidy_outcome bs (length before)) before after n a in
      let rows = tidy_rows bs (length before) in (
        list_sound (all_left (λ (r : Row). r.test ≡ false) (list_rows bs) _ (done_none (tidied_bytes (records bs)) rows w.bytes w.outcome)),
        rw (done_is (tidied_bytes (records bs)) rows w.bytes w.outcome) at w.first,
      )

  module _ (index B k id : ℕ) (wide : id < 2 ^ 64) (plan list plan' list' : List ℕ) (m n : ℕ) where
    abbrev rows : List Row
    rows = compact_rows bs index B k id (length plan) (length list)

    allowed : NoneHolds rows → Allowed index B (records bs) k id
    unfolding compact_rows later_rows
    allowed h =
        let rest = h.1.1 in
        let later = all_right (λ (r : Row). r.test ≡ false) (list_rows bs) _ rest in
        record {
          sound = list_sound (all_left (λ (r : Row). r.test ≡ false) (list_rows bs) _ rest);
          indexed = h.0;
          block = h.1.0;
          number = wide;
          new = later.1.0;
          enough = later.0;
        }

    pub compacted_wrote : Compacts (compact_outcome bs index B k id (length plan) (length list)) plan list (wrote m n) plan' list'
        → Allowed index B (records bs) k id × Front (plan_bytes index B (records bs) k) m plan' × Front (new_list_bytes (records bs) k id) n list'
    unfolding compact_outcome answer_of left_in both
    compacted_wrote a = go (compact_outcome bs index B k id (length plan) (length list)) refl a
      where
        go : (o : Outcome Both) → first_of rows (done (both index B (records bs) k id)) ≡ o → Compacts o plan list (wrote m n) plan' list'
            → Allowed index B (records bs) k id × Front (plan_bytes index B (records bs) k) m plan' × Front (new_list_bytes (records bs) k id) n list'
        go (refused r) e a = let z : ◌≡◌ {A = ℕ} 0 1 = cc a.answers in absurd (omega arith)
        go (done b) e a =
            let same = done_is (both index B (records bs) k id) rows b e in
            let said = counts m n _ _ a.answers in (
              allowed (done_none (both index B (records bs) k id) rows b e),
              front_of plan plan' _ m (said.0 ∙ rw same) (a.leaves.0 ∙ rw same),
              front_of list list' _ n (said.1 ∙ rw same) (a.leaves.1.0 ∙ rw same),
            )

    -- and the new list is accepted again
    pub compacted_wrote_accepted : Compacts (compact_outcome bs index B k id (length plan) (length list)) plan list (wrote m n) plan' list' → Accepts (take n list')
    unfolding answer_of left_in
    compacted_wrote_accepted a = go (compact_outcome bs index B k id (length plan) (length list)) refl a
      where
        go : (o : Outcome Both) → compact_outcome bs index B k id (length plan) (length list) ≡ o → Compacts o plan list (wrote m n) plan' list' → Accepts (take n list')
        go (refused r) e a = let z : ◌≡◌ {A = ℕ} 0 1 = cc a.answers in absurd (omega arith)
        go (done w) e a =
            let new = front_of list list' w.list n (counts m n _ _ a.answers).1 a.leaves.1.0 in
            rw new.front (compact_done_accepted bs b index B k id (length plan) (length list) wide w e).1
