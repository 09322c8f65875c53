-- `resolve::tops::off_in` meets its contract. Assumes nothing.
use native.Mathlib.Omega.{arith}
use Rattle.resolve.proofs.Laws.Tops.{off_fits}
use Rattle.resolve.proofs.tops.off_in.Goals as goal

pub overflow_add-result : goal.overflow_add-result
overflow_add-result c =
    omega (arith, off_fits _ c.requires.passes _ c.requires.i_bound.0 c.requires.i_bound.1, c.behind.ensures, c.read_pos.ensures, c.read_off.ensures)
