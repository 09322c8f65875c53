-- `views::walk::roomy` meets its contract. Assumes nothing.
use Prim.Native.Nat.{◌/◌}
use native.Mathlib.Omega.{arith}
use mathlib.Core.Path.{sym, ◌∙◌}
use borrow.Author.Tests.{leb-true}
use Rattle.views.proofs.Laws.Rooms.{short_less}
use Rattle.views.proofs.walk.roomy.Goals as goal

pub returns : goal.returns
returns c =
    λ e.
    record {
      fits = omega (arith, leb-true c.args.m (c.args.room / 24) e);
      short = λ n l. short_less _ _ _ (sym c.too_long.ensures ∙ c.if-too_long.false) l;
    }
