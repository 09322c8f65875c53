-- `judging::sifting::sift_list` meets its contract. Assumes nothing.
use Rattle.judging.proofs.Laws.Sifting.{sift_nowhere}
use Rattle.judging.proofs.sifting.sift_list.Goals as goal

pub returns-then-part-clause-sifts : goal.returns-then-part-clause-sifts
returns-then-part-clause-sifts c =
    let p = c.part-part.ensures in
    sift_nowhere _ _ _ _ _ _ _ _ _ _ p.0 p.1 c.if-part.true c.requires.limit_in_bounds.1

pub resolve-segments-requires : goal.resolve-segments-requires
resolve-segments-requires c = record { all = c.requires.resolvable.0.pass; few = c.requires.resolvable.1 }

pub sift_on-requires : goal.sift_on-requires
sift_on-requires c =
    record { n_bound = c.requires.k_lt_max_lists.1; limit_in_bounds = c.requires.limit_in_bounds }
