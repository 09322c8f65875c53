-- When `judge` is refused, and what it says else. Assumes nothing.
use Prim.Native.Nat.{ℕ, ◌≤◌}
use mathlib.Core.Path.{◌≡◌, sym, ◌∙◌}
use mathlib.Core.Logic.{◌↔◌}
use mathlib.Core.List.{List}
use lib.ListN.{length}
use Rattle.outcomes.specs.Outcome.{refused, done, NoneHolds, Given}
use Rattle.outcomes.proofs.Laws.Outcome.{none_passes, refused_exactly, stops}
use Rattle.joined.specs.Refusals.{ListRefusal}
use Rattle.files.specs.Calls.{chunks_rows, file_bytes, file_outcome}
use Rattle.files.proofs.Laws.Calls.{file_fits}
use Rattle.judging.specs.Calls.{site_in, read_length, judge_outcome}
use Rattle.judging.specs.Judge.{Verdict, verdict}

module _ (bs lengths : List ℕ) (first file_len B start count : ℕ) (plan : List ℕ) where
  abbrev said : Verdict
  said = verdict (site_in bs lengths first B start) (read_length bs lengths first file_len start count) plan

  pub judge_refused_exactly : (r : ListRefusal) → (judge_outcome bs lengths first file_len B start count plan ≡ refused r) ↔ Given (chunks_rows bs lengths first B) r
  unfolding judge_outcome
  judge_refused_exactly r = refused_exactly said (chunks_rows bs lengths first B) r

  -- our plan, with room for it, is refused alike
  pub judge_refused_alike : (room : ℕ) → length (file_bytes bs lengths first file_len B start count) ≤ room → (r : ListRefusal)
      → (judge_outcome bs lengths first file_len B start count plan ≡ refused r) ↔ (file_outcome bs lengths first file_len B start count room ≡ refused r)
  unfolding judge_outcome
  judge_refused_alike room h r =
      let fits = file_fits bs lengths first file_len B start count room h in
      let ours = file_bytes bs lengths first file_len B start count in
      (λ e. fits ∙ stops said (chunks_rows bs lengths first B) (done ours) r e, λ e. stops ours (chunks_rows bs lengths first B) (done said) r (sym fits ∙ e))

  pub judge_answered : NoneHolds (chunks_rows bs lengths first B) → judge_outcome bs lengths first file_len B start count plan ≡ done said
  unfolding judge_outcome
  judge_answered h = none_passes (chunks_rows bs lengths first B) (done said) h
