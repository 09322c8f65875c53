-- `codec::put::put` meets its contract. The invariant: the first k bytes are put. Assumes nothing.
use native.Mathlib.Omega.{arith}
use native.Mathlib.Numerals.{add-one}
use mathlib.Core.Path.{◌≡◌, refl, sym, ◌∙◌}
use lib.ListN.{length}
use lib.Seq.{take-length}
use Rattle.codec.proofs.Laws.Splice.{splice-nil, splice_more}
use Rattle.codec.proofs.put.put.Goals as goal

pub loop-k-init : goal.loop-k-init
loop-k-init c = sym (splice-nil _ _)

pub loop-k-preserved : goal.loop-k-preserved
loop-k-preserved c =
    let a = c.args in
    rw (c.loop-k.invariant, add-one) (splice_more a.out.now a.at c.loop-k.k a.s.now c.loop-k-test.true (omega arith))

pub returns : goal.returns
returns c =
    let e : c.loop-k.k ≡ length c.args.s.now = omega arith in
    (refl, c.loop-k.invariant ∙ rw (e, take-length))
