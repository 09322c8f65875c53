-- What refusal 9 leaves: an id that is not 0 and stands in no record. Assumes nothing.
use Prim.Native.Nat.{ℕ}
use mathlib.Core.Path.{◌≡◌}
use mathlib.Core.Bool.{false}
use mathlib.Core.Logic.{◌≢◌}
use mathlib.Core.List.{List}
use lib.Dec.{eqb}
use borrow.Author.Tests.{eqb-false}
use Rattle.codec.proofs.Laws.Bools.{or_none}
use Rattle.slices.specs.Ids.{stands}
use Rattle.slices.proofs.Laws.Ids.{Fresh, not_stands}
use Rattle.compaction.specs.Calls.{id_in_use}
use Rattle.slices.specs.declared.Record.{Record}

pub not_in_use : (id : ℕ) (rs : List Record) → id_in_use id rs ≡ false → (id ≢ 0) × Fresh id rs
unfolding id_in_use
not_in_use id rs e =
    let h = or_none (eqb id 0) (stands id rs) e in
    (eqb-false id 0 h.0, not_stands id rs h.1)
