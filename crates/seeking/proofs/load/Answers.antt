-- `seeking::load` meets its contract: the view's bytes fill the row. Assumes nothing.
use mathlib.Core.Path.{refl}
use Rattle.std.proofs.lemmas.Result.{err_from_is_err_and}
use Rattle.seeking.specs.Inner.{segments_in}
use Rattle.seeking.proofs.Laws.Load.{loads, loads_refused}
use Rattle.seeking.proofs.load.Goals as goal

pub returns-in_err-n : goal.returns-in_err-n
returns-in_err-n c =
    let p = err_from_is_err_and c.from_residual.result c.from_residual.ensures.1 in
    rw (p.1, p.2) (loads_refused _ _ _ _ _ (rw c.in_err-n.was at c.view_within.ensures))

pub fill-requires : goal.fill-requires
unfolding segments_in
fill-requires c =
    let w = rw c.in_ok-n.was at c.view_within.ensures in
    (w.written, w.room)

pub returns : goal.returns
unfolding segments_in
returns c = loads _ _ _ _ _ _ c.in_ok-n.n (rw c.in_ok-n.was at c.view_within.ensures) refl c.fill.ensures
