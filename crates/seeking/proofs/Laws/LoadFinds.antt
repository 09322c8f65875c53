-- A load: exactly when it is refused, and that in a row that it filled every position below the view's end is found. Assumes nothing.
use Prim.Native.Nat.{ℕ}
use native.Mathlib.Omega.{arith}
use mathlib.Core.Path.{◌≡◌, refl, ap, ◌∙◌}
use mathlib.Core.Logic.{◌↔◌}
use mathlib.Core.List.{List, ◌++◌}
use lib.ListN.{length, get_or, drop}
use Rattle.outcomes.specs.Outcome.{Outcome, refused, done, NoneHolds, Given}
use Rattle.outcomes.specs.Answers.{answer_of, left_in}
use Rattle.outcomes.proofs.Laws.Outcome.{refused_exactly, answered_exactly, done_is}
use Rattle.outcomes.specs.Outcome.{Refusal}
use Rattle.slices.specs.Record.{records}
use Rattle.slices.specs.declared.Record.{Record}
use Rattle.views.specs.View.{view}
use Rattle.seeking.specs.Seek.{seek_row, no_segment}
use Rattle.seeking.specs.Load.{load_rows, load_outcome, loaded, row_after, Loads}
use Rattle.seeking.specs.Claims.{Finds}
use Rattle.std.specs.Prelude.{Ok, Err}
use Rattle.seeking.proofs.Laws.LentRow.{row_loaded_finds}

module _ (bs : List ℕ) (l room rows : ℕ) where
  pub load_refused_exactly : (r : Refusal) → (load_outcome bs l room rows ≡ refused r) ↔ Given (load_rows bs l room rows) r
  unfolding load_outcome
  load_refused_exactly r = refused_exactly (view (records bs) l) (load_rows bs l room rows) r

  pub load_answered_exactly : (load_outcome bs l room rows ≡ done (view (records bs) l)) ↔ NoneHolds (load_rows bs l room rows)
  unfolding load_outcome
  load_answered_exactly = answered_exactly (view (records bs) l) (load_rows bs l room rows)

-- a number of segments is answered only where there is a view
said_segments : (o : Outcome (List Record)) (n : ℕ) → Ok n ≡ loaded o → (vs : List Record) × (o ≡ done vs) × (n ≡ length vs)
unfolding answer_of
said_segments (refused r) n e = let z : ◌≡◌ {A = ℕ} 0 1 = cc in absurd (omega arith)
said_segments (done vs) n e = (vs, refl, cc)

-- a refusal leaves the row and the bytes as they were
pub refused_keeps : (o : Outcome (List Record)) (bytes : List ℕ) (row : List Record) (r : Refusal) (bytes_after : List ℕ) (after : List Record) → Loads o bytes row (Err r) bytes_after after
    → (o ≡ refused r) × (bytes_after ≡ bytes) × (after ≡ row)
unfolding answer_of left_in row_after
refused_keeps (refused q) bytes row r bytes_after after w = let e : q ≡ r = cc w.answers in (ap refused e, w.leaves, w.fills)
refused_keeps (done vs) bytes row r bytes_after after w = let z : ◌≡◌ {A = ℕ} 0 1 = cc w.answers in absurd (omega arith)

module _ (bs : List ℕ) (l : ℕ) (bytes : List ℕ) (row : List Record) (n : ℕ) (bytes_after : List ℕ) (after : List Record)
    (w : Loads (load_outcome bs l (length bytes) (length row)) bytes row (Ok n) bytes_after after) where
  -- the row is the view, and then its rest as it was
  pub load_fills : (n ≡ length (view (records bs) l)) × (after ≡ view (records bs) l ++ drop n row)
  unfolding load_outcome row_after
  load_fills =
      let s = said_segments (load_outcome bs l (length bytes) (length row)) n w.answers in
      let v : s.0 ≡ view (records bs) l = done_is (view (records bs) l) (load_rows bs l (length bytes) (length row)) s.0 s.1 in
      let e : n ≡ length (view (records bs) l) = s.2 ∙ ap length v in
      let f : after ≡ s.0 ++ drop (length s.0) row = rw s.1 at w.fills in
      (e, f ∙ rw (v, e))

  -- and every position below the view's end is found in it
  pub load_finds : Finds (λ (i : ℕ). get_or after i no_segment) n l (seek_row after n)
  load_finds = rw (load_fills.1, load_fills.0) (row_loaded_finds (records bs) l (drop (length (view (records bs) l)) row))
