-- What `view` and `tidy` answer, case by case, and exactly when each refusal is given. Assumes nothing.
use Prim.Native.Nat.{ℕ, ◌<◌, ◌≤◌}
use native.Mathlib.Omega.{arith}
use native.Mathlib.Decide.{dec_lt}
use mathlib.Core.Path.{◌≡◌, refl, sym, ◌∙◌}
use mathlib.Core.Bool.{Bool, true, false}
use mathlib.Core.Logic.{◌↔◌}
use mathlib.Core.List.{List, [], ◌∷◌}
use lib.ListN.{length}
use borrow.Author.Tests.{lt-ltb, le-ltb}
use Rattle.slices.specs.Limits.{chunk}
use Rattle.slices.specs.Record.{records, encode_all}
use Rattle.outcomes.specs.Numbers as number
use Rattle.outcomes.specs.Outcome.{refused, done, refusal, row, delivered, first_of, NoneHolds, Given}
use Rattle.slices.specs.Refusals.{list_rows, check_outcome, checked, chunk_too_long}
use Rattle.outcomes.proofs.Laws.Outcome.{row_holds, row_passes, done_fits, refused_exactly, answered_exactly}
use Rattle.slices.proofs.Laws.Refusals.{list_stops, list_lets}
use Rattle.views.specs.View.{tidied_bytes}
use Rattle.views.specs.Calls.{max_tidied, tidied_too_long, view_bytes, view_rows, view_outcome, tidy_rows, tidy_outcome}
use Rattle.views.specs.Inner.{view_from, too_long, runs_outcome}
use Rattle.views.proofs.Laws.ViewFrom.{view_from-view, view_from-tidied}
use Rattle.outcomes.specs.Outcome.{Refusal}
use Rattle.std.specs.Prelude.{Ok, Err}

-- ---- view

module _ (bs : List ℕ) (l room : ℕ) where
  pub view_7 : chunk < l → view_outcome bs l room ≡ refused (refusal number.chunk_too_long 0)
  unfolding view_outcome view_rows chunk_too_long
  view_7 h = row_holds _ _ _ _ _ (lt-ltb chunk l h)

  module _ (h : l ≤ chunk) where
    pub view_refused : (r : Refusal) → checked (check_outcome bs) ≡ Err r → view_outcome bs l room ≡ refused r
    unfolding view_outcome view_rows chunk_too_long
    view_refused r e = row_passes _ _ _ _ _ (le-ltb chunk l h) ∙ list_stops bs _ _ r e

    pub view_accepted : (n : ℕ) → checked (check_outcome bs) ≡ Ok n → view_outcome bs l room ≡ delivered (encode_all (view_from true (records bs) 0 l)) room
    unfolding view_outcome view_rows chunk_too_long view_bytes
    view_accepted n e = row_passes _ _ _ _ _ (le-ltb chunk l h) ∙ list_lets bs _ _ n e ∙ rw (view_from-view (records bs) l)

  -- a view that is written is the list's, and fits its buffer
  pub view_fits : (vs : List ℕ) → view_outcome bs l room ≡ done vs → (vs ≡ view_bytes bs l) × (length vs ≤ room)
  unfolding view_outcome view_rows
  view_fits vs h = done_fits (row (chunk_too_long l) number.chunk_too_long 0 ∷ list_rows bs) (view_bytes bs l) vs room h

  pub view_refused_exactly : (r : Refusal) → (view_outcome bs l room ≡ refused r) ↔ Given (view_rows bs l room) r
  unfolding view_outcome
  view_refused_exactly r = refused_exactly (view_bytes bs l) (view_rows bs l room) r

  pub view_answered_exactly : (view_outcome bs l room ≡ done (view_bytes bs l)) ↔ NoneHolds (view_rows bs l room)
  unfolding view_outcome
  view_answered_exactly = answered_exactly (view_bytes bs l) (view_rows bs l room)

-- ---- tidy

module _ (bs : List ℕ) (room : ℕ) where
  pub tidy_refused : (r : Refusal) → checked (check_outcome bs) ≡ Err r → tidy_outcome bs room ≡ refused r
  unfolding tidy_outcome tidy_rows
  tidy_refused r e = list_stops bs _ _ r e

  module _ (n : ℕ) (e : checked (check_outcome bs) ≡ Ok n) where
    pub tidy_11 : max_tidied < length (view_from false (records bs) 0 chunk) → tidy_outcome bs room ≡ refused (refusal number.tidied_too_long 0)
    unfolding tidy_outcome tidy_rows tidied_too_long
    tidy_11 h = list_lets bs _ _ n e ∙ row_holds _ _ _ _ _ (rw (← view_from-tidied (records bs)) (lt-ltb max_tidied (length (view_from false (records bs) 0 chunk)) h))

    pub tidy_accepted : length (view_from false (records bs) 0 chunk) ≤ max_tidied → tidy_outcome bs room ≡ delivered (encode_all (view_from false (records bs) 0 chunk)) room
    unfolding tidy_outcome tidy_rows tidied_too_long tidied_bytes
    tidy_accepted h =
        list_lets bs _ _ n e
        ∙ row_passes _ _ _ _ _ (rw (← view_from-tidied (records bs)) (le-ltb max_tidied (length (view_from false (records bs) 0 chunk)) h))
        ∙ rw (view_from-tidied (records bs))

  pub tidy_refused_exactly : (r : Refusal) → (tidy_outcome bs room ≡ refused r) ↔ Given (tidy_rows bs room) r
  unfolding tidy_outcome
  tidy_refused_exactly r = refused_exactly (tidied_bytes (records bs)) (tidy_rows bs room) r

  pub tidy_answered_exactly : (tidy_outcome bs room ≡ done (tidied_bytes (records bs))) ↔ NoneHolds (tidy_rows bs room)
  unfolding tidy_outcome
  tidy_answered_exactly = answered_exactly (tidied_bytes (records bs)) (tidy_rows bs room)

-- ---- what both answer once the list is accepted

module _ (all : Bool) (bs : List ℕ) (end room count : ℕ) (e : count ≡ length (view_from all (records bs) 0 end)) where
  pub runs_11 : too_long all count ≡ true → runs_outcome all bs end room ≡ refused (refusal number.tidied_too_long 0)
  unfolding runs_outcome
  runs_11 h =
      let f : too_long all (length (view_from all (records bs) 0 end)) ≡ true = rw (← e) h in
      row_holds _ _ _ _ _ f

  pub runs_accepted : too_long all count ≡ false → runs_outcome all bs end room ≡ delivered (encode_all (view_from all (records bs) 0 end)) room
  unfolding runs_outcome first_of
  runs_accepted h =
      let vs = view_from all (records bs) 0 end in
      let f : too_long all (length vs) ≡ false = rw (← e) h in
      row_passes (too_long all (length vs)) number.tidied_too_long 0 (delivered (encode_all vs) room) [] f

module _ (bs : List ℕ) (n : ℕ) (e : checked (check_outcome bs) ≡ Ok n) (room : ℕ) where
  pub view_runs_lem : (l : ℕ) → l ≤ chunk → view_outcome bs l room ≡ runs_outcome true bs l room
  unfolding too_long
  view_runs_lem l h = view_accepted bs l room h n e ∙ sym (runs_accepted true bs l room (length (view_from true (records bs) 0 l)) refl refl)

  pub tidy_runs : tidy_outcome bs room ≡ runs_outcome false bs chunk room
  unfolding too_long
  tidy_runs = go (dec_lt max_tidied (length (view_from false (records bs) 0 chunk)))
    where
      go : Dec (max_tidied < length (view_from false (records bs) 0 chunk)) → tidy_outcome bs room ≡ runs_outcome false bs chunk room
      go (yes h) =
          tidy_11 bs room n e h
          ∙ sym (runs_11 false bs chunk room (length (view_from false (records bs) 0 chunk)) refl (lt-ltb max_tidied (length (view_from false (records bs) 0 chunk)) h))
      go (no h) =
          tidy_accepted bs room n e (omega arith)
          ∙ sym (runs_accepted false bs chunk room (length (view_from false (records bs) 0 chunk)) refl (le-ltb max_tidied (length (view_from false (records bs) 0 chunk)) (omega arith)))
