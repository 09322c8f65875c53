-- `slices::records::read_len` meets its contract: the field is the number at its place. Assumes nothing.
use Rattle.slices.specs.Record.{record_at, decode}
use Rattle.slices.proofs.records.read_len.Goals as goal

pub returns : goal.returns
unfolding record_at decode
returns c = c.read_be32.ensures
