-- `views::walk::shown` meets its contract. Assumes nothing.
use Prim.Native.Nat.{ℕ, zero, suc}
use mathlib.Core.Path.{◌≡◌, refl}
use mathlib.Core.Bool.{false, not}
use native.Mathlib.Omega.{arith}
use lib.Dec.{eqb}
use borrow.Author.Tests.{ne_eqb}
use Rattle.views.specs.Inner.{shown}
use Rattle.views.proofs.walk.shown.Goals as goal

some : (top : ℕ) → not (eqb top 0) ≡ shown false top
unfolding shown
some zero = refl
some (suc i) = rw (ne_eqb (suc i) 0 (λ e. omega arith))

pub returns-then-all : goal.returns-then-all
unfolding shown
returns-then-all c = rw c.if-all.true

pub returns : goal.returns
returns c = rw c.if-all.false (some c.args.top)
