-- `names::block::allowed` meets its contract, case by case. Assumes nothing.
use Prim.Native.Nat.{◌≤◌}
use native.Mathlib.Omega.{arith}
use borrow.Author.Tests.{le-leb}
use Rattle.std.proofs.Common.{rules}
use Rattle.texts.specs.Limits.{max_number}
use Rattle.names.specs.Limits.{max_block}
use Rattle.names.specs.Names.{object_allowed}
use Rattle.names.proofs.block.allowed.Goals as goal

pub returns-then-size-ge1 : goal.returns-then-size-ge1
unfolding object_allowed
returns-then-size-ge1 c =
    let a = c.args in let t = c.if-size-ge1.true in let top : a.id ≤ max_number = omega arith in simp (le-leb 1 a.id t.0, le-leb a.id max_number top, le-leb a.block max_block t.1, le-leb 1 a.size t.2)

pub returns-else-size-ge1 : goal.returns-else-size-ge1
unfolding object_allowed
returns-else-size-ge1 c = search rules
