-- `resolve::sweep::begin` meets its contract. Assumes nothing.
use Prim.Native.Nat.{◌<◌}
use native.Mathlib.Omega.{arith}
use mathlib.Core.Path.{◌≡◌, refl}
use Rattle.slices.specs.Limits.{chunk}
use Rattle.resolve.proofs.sweep.begin.Goals as goal
use Rattle.resolve.proofs.sweep.begin.Goals.{After-wide-v}

-- the record is one of them
inside : (c : After-wide-v) → c.wide-v.result < c.args.n
inside c = rw c.wide-v.ensures (c.requires.by_index c.loop-k.k c.loop-k-test.true)

pub narrow-requires : goal.narrow-requires
unfolding chunk
narrow-requires c = omega (arith, c.requires.n_in_bounds.5 _ (inside (goal.at.narrow-requires c).After-wide-v))

pub returns-clause-next : goal.returns-clause-next
unfolding chunk
returns-clause-next c =
    record { behind = c.requires.n_in_bounds.4; is = λ h. absurd (omega (arith, h, c.loop-k-test.false)); none = λ h. refl }

pub returns-clause-begun : goal.returns-clause-begun
returns-clause-begun c =
    let e : c.loop-k.k ≡ c.args.n = omega (arith, c.loop-k-test.false, c.requires.n_in_bounds.3) in
    rw e at c.loop-k.invariant.1
