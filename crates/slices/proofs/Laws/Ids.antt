-- An id that stands in no record of a list. Assumes nothing.
use Prim.Native.Nat.{ℕ}
use mathlib.Core.Path.{◌≡◌}
use mathlib.Core.Bool.{false}
use mathlib.Core.Logic.{◌≢◌}
use mathlib.Core.List.{List, [], ◌∷◌}
use lib.Dec.{eqb}
use borrow.Author.Tests.{eqb-false}
use Rattle.codec.specs.All.{All}
use Rattle.codec.proofs.Laws.Bools.{or_none}
use Rattle.slices.specs.Ids.{stands}
use Rattle.slices.specs.declared.Record.{Record}

-- none of the records has the id
abbrev pub Fresh : ℕ → List Record → Type 0
Fresh id rs = All (λ (r : Record). r.id ≢ id) rs

pub not_stands : (id : ℕ) (rs : List Record) → stands id rs ≡ false → Fresh id rs
unfolding stands
not_stands id [] e = tt
not_stands id (r ∷ rs) e =
    let h = or_none (eqb r.id id) (stands id rs) e in
    (eqb-false r.id id h.0, not_stands id rs h.1)
