-- `seeking::within::view_within` meets its contract: the view is written into the room that both buffers have. Assumes nothing.
use Rattle.std.proofs.lemmas.Result.{err_from_is_err_and}
use Rattle.codec.specs.All.{Bytes}
use Rattle.codec.proofs.Laws.All.{all_bytes}
use Rattle.seeking.proofs.Laws.Load.{within_refused, within_wrote}
use Rattle.seeking.proofs.within.view_within.Goals as goal
use Rattle.seeking.proofs.within.view_within.Goals.{After-shared_slice_known-1}

-- the list's elements are bytes
bytes : (c : After-shared_slice_known-1) → Bytes c.args.list.now
bytes c = all_bytes c.args.list.now (λ i. (c.type_inv.list i).fits)

pub returns : goal.returns
returns c =
    within_wrote _ (bytes (goal.at.returns c).After-shared_slice_known-1) _ _ _ _ _ c.room_for-room.ensures _ (rw c.in_ok-n.was at c.view.ensures)

pub returns-in_err-n : goal.returns-in_err-n
returns-in_err-n c =
    let p = err_from_is_err_and c.from_residual.result c.from_residual.ensures.1 in
    rw (p.1, p.2) (within_refused _ (bytes (goal.at.returns-in_err-n c).After-shared_slice_known-1) _ _ _ _ _ c.room_for-room.ensures _ (rw c.in_err-n.was at c.view.ensures))
