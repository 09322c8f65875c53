-- The records of a view are records of 24 bytes that pass, and so are those of a tidied list, in which zeros have size 0; their slices have the
-- sizes of the list. Assumes nothing.
use Prim.Native.Nat.{ℕ, ◌+◌, ◌-◌, ◌≤◌, zero-le}
use native.Mathlib.Omega.{arith}
use native.Mathlib.Nat.{le_refl}
use mathlib.Core.Path.{◌≡◌, refl}
use mathlib.Core.Bool.{Bool, true, false, cond, false≢true}
use mathlib.Core.Logic.{inl, inr}
use mathlib.Core.List.{List, [], ◌∷◌, map}
use Rattle.codec.specs.All.{All}
use Rattle.slices.specs.Limits.{chunk}
use Rattle.slices.specs.Cover.{cover, is_nothing}
use Rattle.slices.specs.Passes.{Passes}
use Rattle.slices.specs.Record.{Fits}
use Rattle.slices.proofs.Laws.OneSize.{Sized}
use Rattle.slices.proofs.Laws.Sources.{Real, IdFits, OfSize, cover_real, cover_id, cover_sized}
use Rattle.runs.specs.Runs.{Run, Valid}
use Rattle.runs.proofs.Laws.Runs.{valid_le}
use Rattle.views.specs.View.{next, as_record, run_record, view_runs, view, tidied}
use Rattle.views.specs.Inner.{shift, selected, wanted}
use Rattle.views.proofs.Laws.Next.{run_from}
use Rattle.views.proofs.Laws.ViewFrom.{selected_none, selected-cons}
use Rattle.views.proofs.Laws.ViewSource.{view_divides}
use Rattle.slices.specs.declared.Record.{Record}
use Rattle.slices.specs.declared.Source.{Source}
use Rattle.slices.specs.declared.Source.TheVariants.{Nothing, Zero, Byte}

run_fits : (at n : ℕ) (a : Source) → at + n ≤ chunk → Real a → IdFits a → Fits (as_record at n a)
unfolding as_record chunk
run_fits at n Nothing h q k = omega arith
run_fits at n Zero h q k = omega arith
run_fits at n (Byte i s o) h q k = omega (arith, q.1, q.2)

-- a run of zeros has no size
run_zeros : (at n : ℕ) (a : Source) → wanted false a ≡ true → Real a → (as_record at n a).id ≡ 0 → (as_record at n a).size ≡ 0
unfolding as_record wanted is_nothing
run_zeros at n Nothing w q z = absurd (false≢true w)
run_zeros at n Zero w q z = refl
run_zeros at n (Byte i s o) w q z = absurd (q.0 z)

-- an uncovered run has its length as size, which a list lets pass as zeros
run_passes : (at n : ℕ) (a : Source) → at + n ≤ chunk → Real a → Real (shift a (n - 1)) → Passes (as_record at n a)
unfolding as_record shift
run_passes at n Nothing l q k = record { inside = l; sized = omega arith; zeros = λ z. (refl, inr refl); within = λ z. absurd (z refl) }
run_passes at n Zero l q k = record { inside = l; sized = zero-le; zeros = λ z. (refl, inl refl); within = λ z. absurd (z refl) }
run_passes at n (Byte i s o) l q k = record { inside = l; sized = q.1; zeros = λ z. absurd (q.0 z); within = λ z. omega (arith, k.2) }

-- slice bytes keep the size of their slice
run_sized : (sizes : ℕ → ℕ) (at n : ℕ) (a : Source) → OfSize sizes a → Sized sizes (as_record at n a)
unfolding as_record
run_sized sizes at n Nothing q z = absurd (z refl)
run_sized sizes at n Zero q z = absurd (z refl)
run_sized sizes at n (Byte i s o) q z = q

-- what holds of the record of each run that is written holds of all of them; `shift a (n - 1)` is the last source of a run of n positions from a
module _ (all : Bool) (f : ℕ → Source) (Q : Source → Type 0) (has : (p : ℕ) → Q (f p)) (P : Record → Type 0)
    (one : (at n : ℕ) (a : Source) → wanted all a ≡ true → at + n ≤ chunk → Q a → Q (shift a (n - 1)) → P (as_record at n a)) where
  all_written : (at end : ℕ) → end ≤ chunk → (rs : List (Run Source)) → Valid next f at end rs → All P (map run_record (selected all rs))
  all_written at end h [] v = rw (selected_none all) tt
  all_written at end h (r ∷ rs) v = rw (selected-cons all r.start r.len r.first rs) (go (wanted all r.first) refl (all_written (at + r.len) end h rs v.2))
    where
      go : (t : Bool) → wanted all r.first ≡ t → All P (map run_record (selected all rs))
          → All P (cond t (as_record r.start r.len r.first ∷ map run_record (selected all rs)) (map run_record (selected all rs)))
      go true e k = (
        one r.start r.len r.first e (omega (arith, valid_le next f (at + r.len) end rs v.2))
            (rw v.0.first_is (has at)) (rw (← run_from f at r v.0 (r.len - 1) (omega arith)) (has (at + (r.len - 1)))),
        k,
      )
      go false e k = k

-- ---- they pass

module _ (rs : List Record) (h : All Passes rs) where
  -- of all runs, or of the covered ones
  all_pass : (all : Bool) (l : ℕ) → l ≤ chunk → All Passes (map run_record (selected all (view_runs rs l)))
  all_pass all l c = all_written all (cover rs) Real (cover_real rs h) Passes (λ at n a w. run_passes at n a) 0 l c (view_runs rs l) (view_divides rs l)

  pub view_passes : (l : ℕ) → l ≤ chunk → All Passes (view rs l)
  unfolding view selected
  view_passes l c = all_pass true l c

  pub tidied_passes : All Passes (tidied rs)
  unfolding tidied selected
  tidied_passes = all_pass false chunk (le_refl chunk)

  -- "tidying still writes size 0"
  pub tidied_zeros : All (λ (r : Record). r.id ≡ 0 → r.size ≡ 0) (tidied rs)
  unfolding tidied selected
  tidied_zeros =
      all_written false (cover rs) Real (cover_real rs h) (λ (r : Record). r.id ≡ 0 → r.size ≡ 0) (λ at n a w l q e. run_zeros at n a w q) 0 chunk (le_refl chunk)
      (view_runs rs chunk) (view_divides rs chunk)

-- ---- their slices have the sizes of the list

module _ (sizes : ℕ → ℕ) (rs : List Record) (h : All (Sized sizes) rs) where
  all_sized : (all : Bool) (l : ℕ) → l ≤ chunk → All (Sized sizes) (map run_record (selected all (view_runs rs l)))
  all_sized all l c =
      all_written all (cover rs) (OfSize sizes) (cover_sized sizes rs h) (Sized sizes) (λ at n a w e q k. run_sized sizes at n a q) 0 l c (view_runs rs l) (view_divides rs l)

  pub view_sized : (l : ℕ) → l ≤ chunk → All (Sized sizes) (view rs l)
  unfolding view selected
  view_sized l c = all_sized true l c

  pub tidied_sized : All (Sized sizes) (tidied rs)
  unfolding tidied selected
  tidied_sized = all_sized false chunk (le_refl chunk)

-- ---- they have 24 bytes

module _ (rs : List Record) (h : All Passes rs) (k : All Fits rs) where
  all_fit : (all : Bool) (l : ℕ) → l ≤ chunk → All Fits (map run_record (selected all (view_runs rs l)))
  all_fit all l c =
      all_written all (cover rs) (λ (a : Source). Real a × IdFits a) (λ p. (cover_real rs h p, cover_id rs k p)) Fits (λ at n a w e q z. run_fits at n a e q.0 q.1) 0 l c
      (view_runs rs l) (view_divides rs l)

  pub view_records_fit : (l : ℕ) → l ≤ chunk → All Fits (view rs l)
  unfolding view selected
  view_records_fit l c = all_fit true l c

  pub tidied_fits : All Fits (tidied rs)
  unfolding tidied selected
  tidied_fits = all_fit false chunk (le_refl chunk)
