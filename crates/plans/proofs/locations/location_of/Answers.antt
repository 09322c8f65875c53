-- `plans::locations::location_of` meets its contract: the tests that led to a `return` say which location it is. Assumes nothing.
use native.Mathlib.Nat.{div-mul-le_self}
use native.Mathlib.Omega.{arith}
use mathlib.Core.Path.{sym}
use Rattle.plans.proofs.Laws.Locations.{location_hole, location_short, location_full}
use Rattle.plans.proofs.locations.location_of.Goals as goal

pub returns-in_default : goal.returns-in_default
returns-in_default c = sym (location_hole _ _ c.in_default.not-Byte)

pub overflow_mul-left : goal.overflow_mul-left
overflow_mul-left c =
    omega (arith, div-mul-le_self c.in-Byte.off c.args.block)

pub overflow_sub-left : goal.overflow_sub-left
overflow_sub-left c = omega (arith, div-mul-le_self c.in-Byte.off c.args.block, rw c.in-Byte.is at c.requires.inside)

pub returns-then-left-block : goal.returns-then-left-block
returns-then-left-block c = rw c.in-Byte.is (sym (location_short _ _ _ _ c.if-left-block.true))

pub returns-else-left-block : goal.returns-else-left-block
returns-else-left-block c = rw c.in-Byte.is (sym (location_full _ _ _ _ c.if-left-block.false))
