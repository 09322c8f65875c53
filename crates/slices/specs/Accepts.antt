-- The lists that are accepted: what every call on a list may rely on behind refusals 1 to 6 and 16. proofs/Laws/Refusals.antt shows that these
-- lists are accepted and no others. Assumes nothing.
use Rattle.std.specs.Prelude.{ℕ, ◌%◌, ◌≤◌, ◌≡◌, List, length}
use Rattle.codec.specs.All.{All}
use Rattle.slices.specs.Limits.{record_size, max_records}
use Rattle.slices.specs.Record.{count, records}
use Rattle.slices.specs.Passes.{Passes}
use Rattle.slices.specs.OneSize.{OneSize}

-- it has whole records, not too many of them, each passes 3 to 6, and each slice has one size
pub record Accepts (bs : List ℕ) : Type 0 where
  pub whole : length bs % record_size ≡ 0
  pub few : count bs ≤ max_records
  pub pass : All Passes (records bs)
  pub one_size : OneSize (records bs)
