-- The lines of a view, record by record. Assumes nothing.
use Prim.Native.Nat.{ℕ, suc}
use mathlib.Core.Path.{◌≡◌, refl, ap, ◌∙◌}
use mathlib.Core.List.{List, [], ◌∷◌, ◌++◌, append_assoc, append-nil, flat_map}
use Rattle.slices.specs.Record.{record_at, records_from}
use Rattle.slices.proofs.Laws.Record.{records_more}
use Rattle.listing.specs.Listing.{line, lines}
use Rattle.slices.specs.declared.Record.{Record}

lines-append : (xs ys : List Record) → lines (xs ++ ys) ≡ lines xs ++ lines ys
unfolding lines flat_map
lines-append [] ys = refl
lines-append (r ∷ xs) ys = ap (λ (l : List ℕ). line r ++ l) (lines-append xs ys) ∙ rw append_assoc

-- one line more
pub lines_more : (bs : List ℕ) (i : ℕ) → lines (records_from bs 0 (suc i)) ≡ lines (records_from bs 0 i) ++ line (record_at bs i)
unfolding lines flat_map
lines_more bs i =
    ap lines (records_more bs i)
    ∙ lines-append (records_from bs 0 i) (record_at bs i ∷ [])
    ∙ ap (λ (l : List ℕ). lines (records_from bs 0 i) ++ l) (append-nil (line (record_at bs i)))
