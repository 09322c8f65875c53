-- `plans::locations::follows` meets its contract: only a location in an object is followed by one. Assumes nothing.
use Prim.Native.Nat.{◌+◌, ◌-◌}
use native.Mathlib.Omega.{arith}
use mathlib.Core.Path.{◌≡◌}
use borrow.Author.Tests.{eq-eqb, ne_eqb}
use Rattle.plans.specs.Location.{next_location, onward}
use Rattle.plans.proofs.locations.follows.Goals as goal

pub returns-in_default : goal.returns-in_default
unfolding next_location onward
returns-in_default c = rw c.in_default.is

pub returns-then-id-i : goal.returns-then-id-i
unfolding next_location onward
returns-then-id-i c = rw (c.in-In.is, ne_eqb _ _ c.if-id-i.true)

pub returns-then-block-b : goal.returns-then-block-b
unfolding next_location onward
returns-then-block-b c = rw (c.in-In.is, eq-eqb _ _ c.if-id-i.false, ne_eqb _ _ c.if-block-b.true)

pub returns-then-length-l : goal.returns-then-length-l
unfolding next_location onward
returns-then-length-l c =
    rw (c.in-In.is, eq-eqb _ _ c.if-id-i.false, eq-eqb _ _ c.if-block-b.false, ne_eqb _ _ c.if-length-l.true)

pub returns : goal.returns
unfolding next_location onward
returns c =
    let at = c.in-In.at in
    let d = c.args.d in
    let e : at + (d - 1) + 1 ≡ at + d = omega arith in
    rw (c.in-In.is, eq-eqb _ _ c.if-id-i.false, eq-eqb _ _ c.if-block-b.false, eq-eqb _ _ c.if-length-l.false, e)
