-- `resolve::tops::id_on` meets its contract. Assumes nothing.
use Prim.Native.Nat.{suc, ◌-◌}
use native.Mathlib.Omega.{arith}
use mathlib.Core.Path.{◌≡◌, sym, ap, ◌∙◌}
use Rattle.slices.specs.Record.{count}
use Rattle.resolve.specs.Tops.{id_on}
use Rattle.resolve.proofs.tops.id_on.Goals as goal
use Rattle.resolve.proofs.tops.id_on.Goals.{After-from}

-- the record's number, from 0
is : (c : After-from) → c.args.top ≡ suc (c.from.result - 1)
is c = omega (arith, c.from.ensures, c.if-top-eq0.false)

pub returns-then-top-eq0 : goal.returns-then-top-eq0
unfolding id_on
returns-then-top-eq0 c = rw c.if-top-eq0.true

pub read_id-requires : goal.read_id-requires
unfolding count
read_id-requires c = omega (arith, c.requires _ (is c))

pub returns : goal.returns
unfolding id_on
returns c = c.read_id.ensures ∙ ap (id_on c.args.list.now) (sym (is (goal.at.returns c).After-from))
