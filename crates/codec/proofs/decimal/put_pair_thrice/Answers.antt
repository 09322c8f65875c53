-- `codec::decimal::put_pair_thrice` meets its contract: one place after the other. Assumes nothing.
use Rattle.codec.proofs.Laws.Thrice.{thrice_steps}
use Rattle.codec.specs.Pairs.{pair}
use Rattle.codec.proofs.decimal.put_pair_thrice.Goals as goal

pub returns : goal.returns
returns c =
    let a = c.args in
    thrice_steps a.out.now a.a a.b a.c (pair a.n) c.put_pair.ensures c.put_pair-2.ensures c.put_pair-3.ensures
