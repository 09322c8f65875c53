-- `plans::bytes::put_front` meets its contract: index and place, and the mark before them. Assumes nothing.
use native.Mathlib.Omega.{arith}
use mathlib.Core.Path.{ap, ◌∙◌}
use mathlib.Core.List.{List}
use Prim.Native.Nat.{ℕ}
use Rattle.codec.specs.Fixed.{big_endian}
use Rattle.codec.specs.Splice.{splice}
use Rattle.codec.proofs.Laws.Fixed.{length-big_endian}
use Rattle.codec.proofs.Laws.Splice.{splice_before}
use Rattle.plans.proofs.bytes.put_front.Goals as goal

pub returns : goal.returns
returns c =
    let a = c.args in
    c.write_mark.ensures
    ∙ ap (λ (o : List ℕ). splice o a.to (big_endian 2 a.mark)) c.write_be64.ensures
    ∙ splice_before a.out.now a.to (big_endian 2 a.mark) (big_endian 8 a.front) 2 (length-big_endian 2 a.mark) (omega (arith, c.requires, length-big_endian 8 a.front))
