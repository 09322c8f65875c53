-- `names::volume_of` meets its contract: it reads the name, and passes its volume part on. Assumes nothing.
use Rattle.names.proofs.volume_of.Goals as goal

pub returns : goal.returns
returns c = c.volume_part.ensures
