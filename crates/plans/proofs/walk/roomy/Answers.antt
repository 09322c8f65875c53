-- `plans::walk::roomy` meets its contract. Assumes nothing.
use Prim.Native.Nat.{◌+◌, ◌/◌}
use native.Mathlib.Omega.{arith}
use borrow.Author.Tests.{leb-true}
use Rattle.slices.specs.Limits.{chunk}
use Rattle.plans.specs.Piece.{piece_size}
use Rattle.plans.proofs.walk.roomy.Goals as goal

pub overflow_add-result : goal.overflow_add-result
unfolding chunk
overflow_add-result c = omega (arith, c.requires.0)

pub overflow_add-result-2 : goal.overflow_add-result-2
unfolding chunk
overflow_add-result-2 c = omega (arith, c.requires.0, c.number_of.type_inv)

pub returns : goal.returns
returns c =
    let a = c.args in
    λ t. omega (arith, leb-true (a.m + a.m + c.number_of.result) (a.room / piece_size) t, c.number_of.ensures)
