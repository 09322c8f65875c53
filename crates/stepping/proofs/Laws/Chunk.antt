-- What `next_piece` answers, case by case. Assumes nothing.
use Prim.Native.Nat.{ℕ, ◌+◌, ◌-◌, ◌≤◌, ◌<◌}
use native.Mathlib.Omega.{arith}
use mathlib.Core.Path.{◌≡◌, sym, ap, ◌∙◌}
use mathlib.Core.Bool.{Bool, true}
use mathlib.Core.List.{List}
use Rattle.slices.specs.Limits.{chunk, max_index}
use Rattle.slices.specs.Record.{records}
use Rattle.slices.specs.Refusals.{check_outcome, checked}
use Rattle.outcomes.specs.Outcome.{Outcome, refused, done, first_of}
use Rattle.outcomes.specs.Answers.{answer_of}
use Rattle.blocks.specs.Blocks.{block_allowed}
use Rattle.plans.specs.Calls.{chunk_rows}
use Rattle.plans.specs.Inner.{Cut}
use Rattle.plans.specs.Plan.{cut_to, location_from}
use Rattle.plans.proofs.Laws.Calls.{chunk_accepted}
use Rattle.stepping.specs.Step.{Step, given, finished, next_step, chunk_site}
use Rattle.std.specs.Prelude.{Some, None, Ok, Err}
use Rattle.stepping.specs.Calls.{next_outcome, as_given, next_answer}
use Rattle.stepping.specs.Inner.{PieceFrom}
use Rattle.stepping.proofs.Laws.Leads.{step_piece}
use Rattle.stepping.proofs.Laws.Steps.{finished_stays}
use Rattle.outcomes.specs.Outcome.{Refusal}
use Rattle.slices.specs.declared.Record.{Record}
use Rattle.plans.specs.declared.Piece.{Piece}

-- the piece that starts at a position is the step of the read that is there
pub step_chunk : (index B : ℕ) (rs : List Record) (start n at end : ℕ) (piece : Piece) → at < n → start + n ≡ end → PieceFrom B rs index at (start + at) end piece
    → next_step (chunk_site index B rs start) n at ≡ given piece (at + piece.len)
unfolding chunk_site location_from
step_chunk index B rs start n at end piece l e h =
    step_piece (chunk_site index B rs start) n at B rs index (start + at) end (omega arith)
    (λ j a b. let x : start + (at + (j - (start + at))) ≡ j = omega arith in rw x) (λ q a b. absurd (omega arith)) piece h

module _ (bs : List ℕ) (index l B start count at : ℕ) where
  abbrev outcome : Outcome Step
  outcome = next_outcome bs index l B start count at

  abbrev step : Step
  step = next_step (chunk_site index B (records bs) start) (cut_to l start count) at

  -- a refusal of the rows
  pub next_refused : (r q : Refusal) → first_of (chunk_rows bs index l B) (done step) ≡ refused q → r ≡ q → Err r ≡ next_answer outcome
  unfolding next_outcome answer_of
  next_refused r q h e = rw h (ap Err e)

  module _ (a : l ≤ chunk) (b : index ≤ max_index) (t : Bool) (c : t ≡ block_allowed B) (d : t ≡ true) (m : ℕ) (k : checked (check_outcome bs) ≡ Ok m) (from end : ℕ)
      (cut : Cut l start count from end) where
    answers : (s : Step) → step ≡ s → Ok (as_given s) ≡ next_answer outcome
    unfolding next_outcome answer_of
    answers s e = rw (chunk_accepted bs index l B (done step) a b t c d m k, e)

    pub next_finished : end - from ≤ at → Ok None ≡ next_answer outcome
    unfolding as_given
    next_finished h = answers finished (finished_stays _ _ at (omega (arith, cut.size)))

    pub next_given : at < end - from → (piece : Piece) → PieceFrom B (records bs) index at (from + at) end piece → (to : ℕ) → to ≡ at + piece.len
        → Ok (Some (record { piece = piece; next = record { at = to } })) ≡ next_answer outcome
    unfolding as_given
    next_given h piece p to e =
        let s = cut.starts (omega arith) in
        answers (given piece to)
        (step_chunk index B (records bs) start (cut_to l start count) at end piece (omega (arith, cut.size)) (omega (arith, cut.size, cut.order)) (rw s at p)
        ∙ ap (given piece) (sym e))
