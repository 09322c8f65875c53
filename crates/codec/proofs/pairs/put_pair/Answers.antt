-- `codec::pairs::put_pair` meets its contract: the table has the two digits side by side. Assumes nothing.
use Rattle.codec.proofs.Laws.Pairs.{splice_two}
use native.Mathlib.Omega.{arith}
use lib.ListN.{length-set}
use mathlib.Core.Path.{◌∙◌}
use mathlib.Core.List.{[], ◌∷◌}
use Rattle.codec.specs.Splice.{splice}
use Rattle.codec.proofs.pairs.put_pair.Goals as goal

pub bounds-out-at-2 : goal.bounds-out-at-2
bounds-out-at-2 c = simp length-set (omega arith)

pub returns : goal.returns
returns c =
    let a = c.args in
    let t = c.args.table.table in
    splice_two a.out.now a.at _ _ c.requires.1 ∙ (λ i. splice a.out.now a.at (t.tens a.n c.requires.0 i ∷ t.ones a.n c.requires.0 i ∷ []))
