-- A compaction that is allowed, in the last chunk there can be: the third demand does not speak of nothing. Assumes nothing.
use mathlib.Core.Path.{refl}
use mathlib.Core.Logic.{inr}
use mathlib.Core.List.{List, [], ◌∷◌}
use native.Mathlib.Omega.{arith}
use lib.Dec.{lit≤, lit<}
use Rattle.slices.specs.Limits.{chunk}
use Rattle.blocks.specs.Blocks.{block_size_bad, block_allowed, power_below}
use Rattle.plans.specs.Calls.{past_index}
use Rattle.compaction.specs.Calls.{too_few, id_in_use}
use Rattle.slices.specs.Ids.{stands}
use Rattle.copying.specs.ThirdDemand.{Allowed}
use Rattle.slices.specs.declared.Record.{Record}

-- eight bytes of a slice, and three zeros over them, with their length as size
abbrev example : List Record
example = record { pos = 4; id = 7; size = 20; off = 2; len = 8 } ∷ record { pos = 6; id = 0; size = 3; off = 0; len = 3 } ∷ []

pub example_allowed : Allowed 4294967295 65536 example 2 9
unfolding chunk past_index block_size_bad block_allowed power_below too_few stands id_in_use
example_allowed =
    record {
      sound =
          record {
            pass = (
              record { inside = lit≤ tt; sized = lit≤ tt; zeros = λ e. absurd (omega arith); within = λ e. lit≤ tt },
              (record { inside = lit≤ tt; sized = lit≤ tt; zeros = λ e. (refl, inr refl); within = λ e. absurd (e refl) }, tt),
            );
            fit = (
              record { pos = lit< tt; id = lit< tt; size = lit< tt; off = lit< tt; len = lit< tt },
              (record { pos = lit< tt; id = lit< tt; size = lit< tt; off = lit< tt; len = lit< tt }, tt),
            );
          };
      indexed = refl;
      block = refl;
      number = lit< tt;
      new = refl;
      enough = refl;
    }
