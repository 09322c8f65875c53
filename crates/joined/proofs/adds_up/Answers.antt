-- `joined::adds_up` meets its contract. Assumes nothing.
use mathlib.Core.Path.{sym}
use native.Mathlib.Omega.{arith}
use native.Mathlib.Numerals.{add-one}
use borrow.Author.Tests.{ne_eqb}
use Rattle.joined.specs.Lists.{total}
use Rattle.joined.proofs.Laws.Lists.{total_next, total_end, none_left}
use Rattle.joined.proofs.adds_up.Goals as goal

pub returns-then-left-n : goal.returns-then-left-n
returns-then-left-n c =
    let a = c.args in
    let n = total_next c.loop-n.n-index a.lengths.now c.loop-n-test.true in
    sym (ne_eqb (total a.lengths.now) a.bytes (λ z. omega (arith, n, c.loop-n.invariant, c.if-left-n.true)))

pub loop-n-preserved : goal.loop-n-preserved
loop-n-preserved c =
    let n = total_next c.loop-n.n-index c.args.lengths.now c.loop-n-test.true in
    rw add-one (omega (arith, n, c.loop-n.invariant, c.if-left-n.false))

pub returns : goal.returns
returns c =
    let a = c.args in
    let n = total_end c.loop-n.n-index a.lengths.now c.loop-n-test.false in
    none_left (total a.lengths.now) c.loop-n.left a.bytes (omega (arith, n, c.loop-n.invariant))
