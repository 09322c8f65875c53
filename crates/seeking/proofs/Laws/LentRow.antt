-- The same of a lent row: what is found in it holds the position, and in a row that begins with a view's records, with the number of these, every
-- position below the view's end is found, whatever stands behind them. Assumes nothing.
use Prim.Native.Nat.{ℕ, min}
use native.Mathlib.Omega.{arith}
use mathlib.Core.Path.{◌≡◌, refl, sym, ◌∙◌}
use mathlib.Core.List.{List, ◌++◌}
use lib.ListN.{length, get_or, length-append, get_or-append}
use Rattle.slices.specs.declared.Record.{Record}
use Rattle.views.specs.View.{view}
use Rattle.seeking.specs.Seek.{numbered, halve, if_held, seek_row, no_segment}
use Rattle.seeking.specs.Claims.{Holds, Finds}
use Rattle.std.specs.Prelude.{Option, Some, None}
use Rattle.seeking.specs.declared.Found.{Found}
use Rattle.seeking.proofs.Laws.Seek.{found_holds, seek_none, seek_tested}
use Rattle.seeking.proofs.Laws.Loaded.{loaded_finds}

pub row_found_holds : (row : List Record) (number p k : ℕ) (r : Record) → seek_row row number p ≡ Some (numbered k r)
    → Holds (λ (i : ℕ). get_or row i no_segment) (min number (length row)) p k r
unfolding seek_row
row_found_holds row number p k r h = found_holds (λ (i : ℕ). get_or row i no_segment) (min number (length row)) p k r h

pub row_loaded_finds : (rs : List Record) (l : ℕ) (rest : List Record)
    → Finds (λ (i : ℕ). get_or (view rs l ++ rest) i no_segment) (length (view rs l)) l (seek_row (view rs l ++ rest) (length (view rs l)))
unfolding seek_row
row_loaded_finds rs l rest =
    let e : min (length (view rs l)) (length (view rs l ++ rest)) ≡ length (view rs l) = omega (arith, length-append (view rs l) rest) in
    let f = loaded_finds rs l (λ (i : ℕ). get_or (view rs l ++ rest) i no_segment) (λ i h. get_or-append (view rs l) rest no_segment i h) in
    record { below = λ p h. rw e (f.below p h); beyond = λ p h. rw e (f.beyond p h) }

-- ---- case by case

module _ (row : List Record) (number p n : ℕ) (e : n ≡ min number (length row)) where
  pub row_none : n ≡ 0 → None ≡ seek_row row number p
  unfolding seek_row
  row_none z = seek_none (λ (i : ℕ). get_or row i no_segment) (min number (length row)) p (sym e ∙ z)

  pub row_tested : (n ≡ 0 → ⊥) → (k : ℕ) (f : Option Found) → k ≡ halve (λ (i : ℕ). (get_or row i no_segment).pos) p n 0 n → f ≡ if_held p k (get_or row k no_segment) → f ≡ seek_row row number p
  unfolding seek_row
  row_tested z k f ek ef = rw (← e) (seek_tested (λ (i : ℕ). get_or row i no_segment) n p z k (get_or row k no_segment) f ek refl ef)
