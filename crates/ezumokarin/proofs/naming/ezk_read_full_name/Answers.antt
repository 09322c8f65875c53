-- `ezumokarin::naming::ezk_read_full_name` meets its contract: the object, and how long the volume name is. Assumes nothing.
use mathlib.Core.Path.{◌∙◌}
use Rattle.ezumokarin.proofs.Laws.{plain_full}
use Rattle.ezumokarin.proofs.naming.ezk_read_full_name.Goals as goal

pub returns : goal.returns
returns c =
    let named = c.read_full_name-named.ensures in
    let volume = c.volume_part-volume.ensures in
    c.of_object.ensures ∙ rw (named, volume) (plain_full _)
