-- `ezumokarin::naming::ezk_read_tkv_key` meets its contract: it passes the answer on. Assumes nothing.
use mathlib.Core.Path.{ap, ◌∙◌}
use Rattle.ezumokarin.specs.Names.{plain_chunk}
use Rattle.ezumokarin.proofs.Laws.{plain_chunk_lem}
use Rattle.ezumokarin.proofs.naming.ezk_read_tkv_key.Goals as goal

pub returns : goal.returns
returns c = c.from.ensures ∙ ap plain_chunk c.read_tkv_key.ensures ∙ plain_chunk_lem _
