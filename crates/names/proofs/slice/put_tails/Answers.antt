-- `names::slice::put_tails` meets its contract: one pair after the other. Assumes nothing.
use Rattle.names.proofs.Laws.Slice.{tails_placed}
use Rattle.names.proofs.slice.put_tails.Goals as goal

pub returns : goal.returns
returns c =
    let a = c.args in
    tails_placed a.out.now a.thousands a.id a.tail c.requires.1 c.requires.2 c.put_pair.ensures c.put_pair-2.ensures c.put_pair-3.ensures c.put_pair-4.ensures c.put_pair-5.ensures
