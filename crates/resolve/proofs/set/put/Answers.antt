-- `resolve::set::put` meets its contract. Assumes nothing.
use Rattle.resolve.proofs.Laws.Set.{put_put, put_summed}
use Rattle.resolve.proofs.set.put.Goals as goal

pub returns : goal.returns
returns c =
    record {
      summed_2 = simp (c.unit-d.ensures, c.unit.ensures) (put_summed _ _ _ c.requires.summed c.requires.v_lt_most);
      put = simp (c.unit-d.ensures, c.unit.ensures) (put_put _ _ _ c.requires.summed c.requires.v_lt_most);
    }
