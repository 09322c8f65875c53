-- `judging::places::seek` meets its contract. Assumes nothing.
use Prim.Native.Nat.{◌+◌}
use native.Mathlib.Omega.{arith}
use mathlib.Core.Path.{◌≡◌}
use Rattle.judging.proofs.places.seek.Goals as goal

pub returns-then-q-r-3 : goal.returns-then-q-r-3
returns-then-q-r-3 c =
    let e : c.args.near + 1 + 1 ≡ c.args.near + 2 = omega arith in
    record { inside = omega (arith, c.if-near-r.true); from = omega (arith, c.if-q-r-2.false); to = rw e c.if-q-r-3.true }
