-- `judging::rooms::in_room` meets its contract. Assumes nothing.
use Rattle.judging.proofs.rooms.in_room.Goals as goal

pub sized-requires-clause-lists_len_bound : goal.sized-requires-clause-lists_len_bound
sized-requires-clause-lists_len_bound c = λ _. c.is_small.ensures c.if-is_small.true
