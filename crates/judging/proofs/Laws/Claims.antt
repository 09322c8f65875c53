-- What is to be believed of judging a plan holds. Assumes nothing.
use Rattle.judging.specs.Claims.{PlansMadeElsewhere}
use Rattle.judging.proofs.Laws.Calls.{judge_refused_exactly, judge_refused_alike, judge_answered}
use Rattle.judging.proofs.Laws.Exactly.{rejected_exactly}
use Rattle.judging.proofs.Laws.Spread.{cut_in_two, cut_nowhere, cut_both, exchange, order_order, order_reverse}
use Rattle.judging.proofs.Laws.Chunk.{chunk_accepted}
use Rattle.judging.proofs.Laws.Ends.{empty_accepted, rest_named}
use Rattle.judging.proofs.Laws.Fetches.{accepted_fetches}
use Rattle.judging.proofs.Laws.Ours.{ours_accepted, cuts_accepted}

pub plans_made_elsewhere : PlansMadeElsewhere
plans_made_elsewhere =
    record {
      exactly = rejected_exactly;
      refused_exactly = judge_refused_exactly;
      refused_alike = judge_refused_alike;
      answered = judge_answered;
      fetches = accepted_fetches;
      ours = ours_accepted;
      cuts = cuts_accepted;
      halved = cut_in_two;
      left_whole = cut_nowhere;
      cut_each = cut_both;
      exchanged = exchange;
      on_and_on = order_order;
      turned_round = order_reverse;
      one_chunk = chunk_accepted;
      empty_read = empty_accepted;
      rest = rest_named;
    }
