-- `files::rooms::roomy` meets its contract. Assumes nothing.
use Prim.Native.Nat.{◌+◌, ◌-◌, ◌*◌, ◌/◌, ◌^◌}
use native.Mathlib.Omega.{arith}
use native.Mathlib.Nat.{div-le_self}
use borrow.Author.Tests.{leb-true}
use Rattle.slices.specs.Limits.{record_size}
use Rattle.plans.specs.Piece.{piece_size}
use Rattle.files.proofs.rooms.roomy.Goals as goal

pub overflow_cast-result : goal.overflow_cast-result
overflow_cast-result c = omega (arith, div-le_self (c.args.end - c.args.from) (2 ^ c.args.bits))

pub overflow_add-result-2 : goal.overflow_add-result-2
overflow_add-result-2 c = omega (arith, div-le_self (c.args.end - c.args.from) (2 ^ c.args.bits))

pub returns : goal.returns
returns c =
    let a = c.args in
    λ t. omega (arith, leb-true (4 * (a.bytes / record_size) + 2 * a.lists + (a.end - a.from) / 2 ^ a.bits) (a.room / piece_size) t)
