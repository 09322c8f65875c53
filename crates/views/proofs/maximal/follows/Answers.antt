-- `views::maximal::follows` meets its contract: only a byte of a slice is followed by one. Assumes nothing.
use Prim.Native.Nat.{◌+◌, ◌-◌}
use native.Mathlib.Omega.{arith}
use mathlib.Core.Path.{◌≡◌, sym}
use borrow.Author.Tests.{eq-eqb, ne_eqb}
use Rattle.views.specs.View.{next}
use Rattle.views.specs.Inner.{shift}
use Rattle.views.proofs.Laws.Next.{not_byte}
use Rattle.views.proofs.maximal.follows.Goals as goal

pub returns-in_default : goal.returns-in_default
returns-in_default c = sym (not_byte _ _ _ _ _ c.in_default.not-Byte)

pub returns-then-id-i : goal.returns-then-id-i
unfolding next shift
returns-then-id-i c = rw (c.in-Byte.is, ne_eqb _ _ c.if-id-i.true)

pub returns-then-size-s : goal.returns-then-size-s
unfolding next shift
returns-then-size-s c = rw (c.in-Byte.is, eq-eqb _ _ c.if-id-i.false, ne_eqb _ _ c.if-size-s.true)

pub returns : goal.returns
unfolding next shift
returns c =
    let off = c.in-Byte.off in
    let d = c.args.d in
    let e : off + (d - 1) + 1 ≡ off + d = omega arith in
    rw (c.in-Byte.is, eq-eqb _ _ c.if-id-i.false, eq-eqb _ _ c.if-size-s.false, e)
