-- What `next_file_piece` answers, case by case. Assumes nothing.
use Prim.Native.Nat.{ℕ, suc, ◌+◌, ◌-◌, ◌*◌, ◌/◌, ◌%◌, ◌≤◌, ◌<◌}
use native.Mathlib.Omega.{arith}
use mathlib.Core.Path.{◌≡◌, sym, ap, ◌∙◌}
use mathlib.Core.Bool.{true, false}
use mathlib.Core.List.{List, []}
use lib.ListN.{length, get_or, length-map}
use Rattle.slices.specs.Limits.{chunk}
use Rattle.slices.specs.Record.{records}
use Rattle.joined.proofs.Laws.Numbered.{records_of}
use Rattle.outcomes.specs.Outcome.{OutcomeOf, refused, done, first_of}
use Rattle.outcomes.specs.Answers.{answer_of}
use Rattle.blocks.specs.Blocks.{block_allowed}
use Rattle.joined.specs.Lists.{parts}
use Rattle.joined.specs.Refusals.{lists_outcome, checked_lists}
use Rattle.joined.proofs.Laws.Lists.{parts-length}
use Rattle.joined.proofs.Laws.Refusals.{said_accepted}
use Rattle.runs.specs.Runs.{Stops}
use Rattle.plans.specs.Inner.{Cut}
use Rattle.plans.specs.Location.{location_at, next_site}
use Rattle.plans.specs.Plan.{cut_to}
use Rattle.files.specs.Calls.{wrong_chunks, lists_in, chunks_rows}
use Rattle.files.specs.File.{list_of, site_at, site_from, file_end, part_end}
use Rattle.files.proofs.Laws.Calls.{chunks_let, accepted_count}
use Rattle.files.proofs.Laws.Joins.{edge}
use Rattle.stepping.specs.Step.{Step, given, finished, next_step}
use Rattle.std.specs.Prelude.{Some, None, Ok, Err}
use Rattle.stepping.specs.Calls.{next_file_outcome, as_given, next_file_answer}
use Rattle.stepping.specs.Inner.{PieceFrom}
use Rattle.stepping.proofs.Laws.Leads.{step_piece}
use Rattle.stepping.proofs.Laws.Steps.{finished_stays}
use Rattle.slices.specs.declared.Record.{Record}
use Rattle.joined.specs.Refusals.{ListRefusal}
use Rattle.plans.specs.declared.Piece.{Piece}

-- ---- the step of a read across chunks

module _ (first B : ℕ) (ls : List (List Record)) (start n at : ℕ) where
  abbrev chunk_of : ℕ
  chunk_of = (start + at) / chunk

  abbrev place_in : ℕ
  place_in = (start + at) % chunk

  abbrev last : ℕ
  last = part_end (start + n) chunk_of

  inside : at < n → at + (last - place_in) ≤ n
  unfolding part_end chunk
  inside l = omega arith

  same : (j : ℕ) → place_in ≤ j → j < last → site_from first B ls start (at + (j - place_in)) ≡ record { index = first + chunk_of; location = location_at B (list_of ls (start + at)) j }
  unfolding site_from site_at list_of part_end chunk
  same j a b =
      let x : (start + (at + (j - place_in))) / 67108864 ≡ (start + at) / 67108864 = omega arith in
      let y : (start + (at + (j - place_in))) % 67108864 ≡ j = omega arith in
      rw (x, y)

  -- "No piece crosses a chunk's edge"
  parts_there : at < n → Stops next_site (site_from first B ls start) (at + (last - place_in)) n
  unfolding part_end chunk
  parts_there l q h k =
      let e : suc q ≡ suc chunk_of * 67108864 - start = omega arith in
      edge first B ls start (start + n) chunk_of q e

  pub step_file : (piece : Piece) → at < n → PieceFrom B (list_of ls (start + at)) (first + chunk_of) at place_in last piece
      → next_step (site_from first B ls start) n at ≡ given piece (at + piece.len)
  step_file piece l h =
      step_piece (site_from first B ls start) n at B (list_of ls (start + at)) (first + chunk_of) place_in last (inside l) same (parts_there l) piece h

-- ---- the answers

module _ (bs ns : List ℕ) (first file_len B start count at : ℕ) where
  abbrev outcome : OutcomeOf ListRefusal Step
  outcome = next_file_outcome bs ns first file_len B start count at

  abbrev bytes : ℕ
  bytes = cut_to (file_end first file_len (length (lists_in bs ns))) start count

  abbrev step : Step
  step = next_step (site_from first B (lists_in bs ns) start) bytes at

  -- a refusal of the rows
  pub next_file_refused : (r q : ListRefusal) → first_of (chunks_rows bs ns first B) (done step) ≡ refused q → r ≡ q
      → Err r ≡ next_file_answer outcome
  unfolding next_file_outcome answer_of
  next_file_refused r q h e = rw h (ap Err e)

  module _ (a : wrong_chunks ns (length bs) first ≡ false) (b : block_allowed B ≡ true) (m : ℕ) (k : checked_lists (lists_outcome first (parts ns bs)) ≡ Ok m) (from end : ℕ)
      (cut : Cut (file_end first file_len m) start count from end) where
    answers : (s : Step) → step ≡ s → Ok (as_given s) ≡ next_file_answer outcome
    unfolding next_file_outcome answer_of
    answers s e = rw (chunks_let bs ns first B (done step) a b m (said_accepted _ m k), e)

    counted : m ≡ length (lists_in bs ns)
    unfolding lists_in
    counted = rw length-map (accepted_count bs ns first m k ∙ sym (parts-length ns bs))

    pub next_file_finished : end - from ≤ at → Ok None ≡ next_file_answer outcome
    unfolding as_given
    next_file_finished h = answers finished (finished_stays _ _ at (rw (← counted) (omega (arith, cut.size))))

    pub next_file_given : at < end - from → (piece : Piece)
        → PieceFrom B (records (get_or (parts ns bs) ((from + at) / chunk) [])) (first + (from + at) / chunk) at ((from + at) % chunk) (part_end end ((from + at) / chunk)) piece
        → (to : ℕ) → to ≡ at + piece.len → Ok (Some (record { piece = piece; next = record { at = to } })) ≡ next_file_answer outcome
    unfolding as_given list_of lists_in
    next_file_given h piece p to e =
        let s = cut.starts (omega arith) in
        let z : end ≡ start + bytes = rw (← counted) (omega (arith, cut.size, cut.order)) in
        answers (given piece to)
        (step_file first B (lists_in bs ns) start bytes at piece (rw (← counted) (omega (arith, cut.size))) (rw (s, z, ← records_of (parts ns bs) ((start + at) / chunk)) at p)
        ∙ ap (given piece) (sym e))
