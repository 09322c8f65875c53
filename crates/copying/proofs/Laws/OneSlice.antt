-- The claim on one slice and one size holds. Assumes nothing.
use Rattle.slices.proofs.Laws.OneSize.{accepted_one_size}
use Rattle.views.proofs.Laws.OneSize.{view_one_size, replaced_one_size, tidied_wrote_accepted}
use Rattle.plans.proofs.Laws.Locations.{sizes_share}
use Rattle.compaction.proofs.Laws.Again.{joined_accepted}
use Rattle.copying.specs.OneSlice.{OneSlice}
use Rattle.copying.proofs.Laws.Answered.{compacted_wrote_accepted}

pub one_slice : OneSlice
one_slice =
    record {
      two_records = accepted_one_size;
      viewed = view_one_size;
      replaced = replaced_one_size;
      tidied_again = tidied_wrote_accepted;
      compacted_again = compacted_wrote_accepted;
      joined = joined_accepted;
      shared = sizes_share;
    }
