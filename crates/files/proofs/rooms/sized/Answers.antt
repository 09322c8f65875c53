-- `files::rooms::sized` meets its contract: its arrays are room for each of the lists. Assumes nothing.
use Rattle.files.proofs.Laws.Rooms.{fits_for}
use Rattle.files.proofs.rooms.sized.Goals as goal

pub walk_lists-requires-clause-lengths_value : goal.walk_lists-requires-clause-lengths_value
walk_lists-requires-clause-lengths_value g c =
    (c.requires.lengths_value.0, fits_for g.row.N _ _ c.requires.lists_len_bound c.requires.lengths_value.1)
