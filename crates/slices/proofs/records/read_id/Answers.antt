-- `slices::records::read_id` meets its contract: the id is the number in the record's bytes 4 to 12. Assumes nothing.
use Rattle.slices.specs.Record.{decode, record_at}
use Rattle.slices.proofs.records.read_id.Goals as goal

pub returns : goal.returns
unfolding record_at decode
returns c = c.read_be64.ensures
