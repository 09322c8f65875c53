-- Inner: what the steps of a walk over the positions find. It serves the contracts of inner functions alone. Assumes nothing.
use Rattle.std.specs.Prelude.{ℕ, zero, suc, ◌+◌, ◌-◌, ◌*◌, ◌≤◌, ◌≡◌, Bool, true, false, not, List, [], ◌∷◌, ◌++◌, map, ltb, length}
use Rattle.codec.specs.Fixed.{big_endian}
use Rattle.outcomes.specs.Numbers as number
use Rattle.outcomes.specs.Outcome.{Outcome, row, first_of, delivered}
use Rattle.slices.specs.Limits.{record_size}
use Rattle.slices.specs.Record.{records, encode_all}
use Rattle.slices.specs.Cover.{cover, is_nothing}
use Rattle.runs.specs.Runs.{Run, runs}
use Rattle.views.specs.View.{next, run_record, covered}
use Rattle.views.specs.Calls.{max_tidied}
use Rattle.slices.specs.declared.Record.{Record}
use Rattle.slices.specs.declared.Source.{Source}
use Rattle.slices.specs.declared.Source.TheVariants.{Nothing, Zero, Byte}

-- the source k positions after a in its run
unfoldable pub shift : Source → ℕ → Source
shift Nothing k = Nothing
shift Zero k = Zero
shift (Byte i s o) k = Byte i s (o + k)

-- ---- the runs that a call writes

-- all runs, or only the covered ones
unfoldable pub selected : Bool → List (Run Source) → List (Run Source)
selected true rs = rs
selected false rs = covered rs

-- whether a run with the first source a is among them
unfoldable pub wanted : Bool → Source → Bool
wanted true a = true
wanted false a = not (is_nothing a)

-- the records of these runs of the cover, from p up to `end`
unfoldable pub view_from : Bool → List Record → ℕ → ℕ → List Record
view_from all rs p end = map run_record (selected all (runs next (cover rs) p (end - p)))

-- ---- a run by the record on top of its first position, counted from 1; 0 says that there is none

-- whether the run is written: all are, or only those that are covered
unfoldable pub shown : Bool → ℕ → Bool
shown true top = true
shown false zero = false
shown false (suc i) = true

-- a record's bytes up to its len
unfoldable pub head : ℕ → ℕ → ℕ → ℕ → List ℕ
head pos id size off = big_endian 4 pos ++ (big_endian 8 id ++ (big_endian 4 size ++ big_endian 4 off))

-- ---- what both calls answer once the list is accepted

-- a tidied list has a limit, a view has none
unfoldable pub too_long : Bool → ℕ → Bool
too_long true n = false
too_long false n = ltb max_tidied n

-- as many records as there are segments are not too many, and a buffer of `room` bytes has room for them
pub record Roomy (all : Bool) (m room : ℕ) : Type 0 where
  pub fits : m * record_size ≤ room
  pub short : (n : ℕ) → n ≤ m → too_long all n ≡ false

-- the records of the runs from 0 up to `end`, all or the covered ones
unfoldable pub runs_outcome : Bool → List ℕ → ℕ → ℕ → Outcome (List ℕ)
runs_outcome all bs end room =
    first_of (row (too_long all (length (view_from all (records bs) 0 end))) number.tidied_too_long 0 ∷ [])
    (delivered (encode_all (view_from all (records bs) 0 end)) room)
