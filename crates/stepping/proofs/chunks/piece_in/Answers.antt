-- `stepping::chunks::piece_in` meets its contract: the list of a position's chunk gives the piece. Assumes nothing.
use Prim.Native.Nat.{◌/◌, ◌<◌}
use native.Mathlib.Omega.{arith}
use mathlib.Core.Path.{refl}
use lib.ListN.{length}
use Rattle.slices.specs.Limits.{chunk}
use Rattle.joined.specs.Lists.{parts}
use Rattle.stepping.proofs.Laws.Lists.{list_here_lem, here_accepted, chunk_within, part_some, part_short, piece_there}
use Rattle.stepping.proofs.chunks.piece_in.Goals as goal
use Rattle.stepping.proofs.chunks.piece_in.Goals.{Start}

-- there is a list for position p
within : (c : Start) → let a = c.args in a.p / chunk < length a.lengths.now
within c = chunk_within _ _ _ c.requires.p_lt_end.0 c.requires.p_lt_end.1

pub overflow_add-index : goal.overflow_add-index
unfolding chunk
overflow_add-index c =
    let w = within (goal.at.overflow_add-index c).Start in
    omega (arith, c.requires.lengths_len_bound.1)

pub part-part-requires : goal.part-part-requires
unfolding chunk
part-part-requires c =
    let w = within (goal.at.part-part-requires c).Start in
    omega (arith, c.requires.lengths_len_bound.0)

pub begins-from-requires : goal.begins-from-requires
unfolding chunk
begins-from-requires c = (c.requires.lengths_value.0, within (goal.at.begins-from-requires c).Start)

pub bounds-lengths-k : goal.bounds-lengths-k
unfolding chunk
bounds-lengths-k c = within (goal.at.bounds-lengths-k c).Start

pub scanned_at-requires : goal.scanned_at-requires
unfolding chunk
scanned_at-requires c =
    let e = c.part-part.ensures in
    record { accepts = here_accepted _ _ _ _ _ c.begins-from.ensures refl (within (goal.at.scanned_at-requires c).Start) c.requires.lengths_value.1; p_lt_end = (part_some _ _ e.0 e.1 c.requires.p_lt_end.0, part_short _ _ e.0 e.1) }

pub returns-in-Some : goal.returns-in-Some
unfolding chunk
returns-in-Some c =
    let e = c.part-part.ensures in
    let a = c.args in
    piece_there _ _ e.0 e.1 _ _ _ (parts a.lengths.now a.lists.now) (list_here_lem _ _ _ _ _ c.begins-from.ensures refl) (rw c.in-Some.is at c.scanned_at.ensures)

pub resolved_at-requires : goal.resolved_at-requires
unfolding chunk
resolved_at-requires c =
    let e = c.part-part.ensures in
    record { accepts = here_accepted _ _ _ _ _ c.begins-from.ensures refl (within (goal.at.resolved_at-requires c).Start) c.requires.lengths_value.1; p_lt_end = (part_some _ _ e.0 e.1 c.requires.p_lt_end.0, part_short _ _ e.0 e.1) }

pub returns : goal.returns
unfolding chunk
returns c =
    let e = c.part-part.ensures in
    let a = c.args in
    piece_there _ _ e.0 e.1 _ _ _ (parts a.lengths.now a.lists.now) (list_here_lem _ _ _ _ _ c.begins-from.ensures refl) c.resolved_at.ensures
