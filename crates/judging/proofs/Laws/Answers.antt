-- The answers of `judge`, each in its case. Assumes nothing.
use Prim.Native.Nat.{ℕ, ◌-◌, ◌<◌, ◌≤◌}
use native.Mathlib.Omega.{arith}
use mathlib.Core.Path.{◌≡◌, sym, ap, ◌∙◌}
use mathlib.Core.Bool.{true, false}
use mathlib.Core.List.{List, map}
use lib.ListN.{length, length-map}
use Rattle.outcomes.specs.Outcome.{OutcomeOf, refused, done, first_of}
use Rattle.outcomes.specs.Answers.{answer_of}
use Rattle.blocks.specs.Blocks.{block_allowed}
use Rattle.slices.specs.Record.{records}
use Rattle.joined.specs.Lists.{parts}
use Rattle.joined.specs.Refusals.{lists_outcome, checked_lists}
use Rattle.std.specs.Prelude.{Ok, Err}
use Rattle.joined.specs.Refusals.{ListRefusal}
use Rattle.joined.proofs.Laws.Lists.{parts-length}
use Rattle.joined.proofs.Laws.Refusals.{said_accepted}
use Rattle.plans.specs.Inner.{Cut}
use Rattle.plans.specs.Location.{Site}
use Rattle.files.specs.Calls.{wrong_chunks, lists_in, chunks_rows}
use Rattle.files.specs.File.{site_from, file_end}
use Rattle.files.proofs.Laws.Calls.{chunks_let, accepted_count}
use Rattle.judging.specs.Calls.{site_in, read_length, judge_outcome, said, judge_answer}
use Rattle.judging.specs.Judge.{Verdict, verdict}
use Rattle.judging.specs.declared.Judged.{Judged}

module _ (bs ns : List ℕ) (first file_len B start count : ℕ) (plan : List ℕ) where
  abbrev outcome : OutcomeOf ListRefusal Verdict
  outcome = judge_outcome bs ns first file_len B start count plan

  abbrev ours : Verdict
  ours = verdict (site_in bs ns first B start) (read_length bs ns first file_len start count) plan

  -- a refusal of the rows
  pub judge_refused : (r q : ListRefusal) → first_of (chunks_rows bs ns first B) (done ours) ≡ refused q → r ≡ q → Err r ≡ judge_answer outcome
  unfolding judge_outcome answer_of
  judge_refused r q h e = rw h (ap Err e)

  module _ (a : wrong_chunks ns (length bs) first ≡ false) (b : block_allowed B ≡ true) (m : ℕ) (k : checked_lists (lists_outcome first (parts ns bs)) ≡ Ok m) (from end : ℕ)
      (cut : Cut (file_end first file_len m) start count from end) where
    answers : Ok (said ours) ≡ judge_answer outcome
    unfolding judge_outcome answer_of
    answers = rw (chunks_let bs ns first B (done ours) a b m (said_accepted _ m k))

    left : read_length bs ns first file_len start count ≡ end - from
    unfolding read_length lists_in
    left =
        let counted : length (map records (parts ns bs)) ≡ m = rw length-map (parts-length ns bs ∙ sym (accepted_count bs ns first m k)) in
        rw counted (sym cut.size)

    pub judge_empty : end ≤ from → (x : Judged) → ((f : ℕ → Site) → x ≡ said (verdict f 0 plan)) → Ok x ≡ judge_answer outcome
    judge_empty h x e =
        let z : read_length bs ns first file_len start count ≡ 0 = left ∙ omega arith in
        ap Ok (e (site_in bs ns first B start) ∙ ap (λ (n : ℕ). said (verdict (site_in bs ns first B start) n plan)) (sym z)) ∙ answers

    same_sites : from < end → site_from first B (map records (parts ns bs)) from ≡ site_in bs ns first B start
    unfolding site_in lists_in
    same_sites h i j = site_from first B (map records (parts ns bs)) (cut.starts h i) j

    pub judge_read : from < end → (x : Judged) → x ≡ said (verdict (site_from first B (map records (parts ns bs)) from) (end - from) plan) → Ok x ≡ judge_answer outcome
    judge_read h x e =
        ap Ok
        (e
        ∙ ap (λ (f : ℕ → Site). said (verdict f (end - from) plan)) (same_sites h)
        ∙ ap (λ (n : ℕ). said (verdict (site_in bs ns first B start) n plan)) (sym left))
        ∙ answers
