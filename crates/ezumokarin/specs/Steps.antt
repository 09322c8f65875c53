-- What comes next in a read, as a struct of numbers. On a refusal, and once the read is finished, there is no piece, and its numbers are 0.
-- Assumes nothing.
use Rattle.std.specs.Prelude.{ℕ, Option, Some, None, Result, Ok, Err}
use Rattle.outcomes.specs.Outcome.{OutcomeOf, Outcome, refused, done}
use Rattle.joined.specs.Refusals.{ListRefusal}
use Rattle.plans.specs.declared.Piece.{Piece}
use Rattle.stepping.specs.Step.{Step, given, finished}
use Rattle.outcomes.specs.Outcome.{Refusal}
use Rattle.stepping.specs.declared.Given.{Given}
use Rattle.ezumokarin.specs.declared.Next.{Next}
use Rattle.ezumokarin.specs.declared.FileNext.{FileNext}

-- no piece: a refusal's number and place, or that nothing is left
abbrev pub no_piece : (refusal place ended next : ℕ) → Next
no_piece refusal place ended next =
    record {
      refusal = refusal;
      place = place;
      finished = ended;
      next = next;
      mark = 0;
      index = 0;
      at = 0;
      id = 0;
      block = 0;
      block_len = 0;
      in_block = 0;
      len = 0;
    }

-- a piece, and the next place
abbrev pub a_piece : Piece → ℕ → Next
a_piece p next =
    record {
      refusal = 0;
      place = 0;
      finished = 0;
      next = next;
      mark = p.mark;
      index = p.index;
      at = p.place;
      id = p.id;
      block = p.block;
      block_len = p.length;
      in_block = p.at;
      len = p.len;
    }

-- what comes at the place `at`; once finished, the next place is this one
unfoldable pub plain_step : Step → (at : ℕ) → Next
plain_step (given p next) at = a_piece p next
plain_step finished at = no_piece 0 0 1 at

-- a read of one chunk
unfoldable pub stepped : Outcome Step → (at : ℕ) → Next
unfolding plain_step
stepped (refused r) at = no_piece r.number r.place 0 0
stepped (done s) at = plain_step s at

-- the same with the chunk index of the refused list
abbrev pub in_file : ℕ → Next → FileNext
in_file i n =
    record {
      refusal = n.refusal;
      place = n.place;
      list_index = i;
      finished = n.finished;
      next = n.next;
      mark = n.mark;
      index = n.index;
      at = n.at;
      id = n.id;
      block = n.block;
      block_len = n.block_len;
      in_block = n.in_block;
      len = n.len;
    }

-- a read across the chunks of a file
unfoldable pub stepped_file : OutcomeOf ListRefusal Step → (at : ℕ) → FileNext
unfolding plain_step
stepped_file (refused r) at = in_file r.index (no_piece r.number r.place 0 0)
stepped_file (done s) at = in_file 0 (plain_step s at)

-- ---- the same of the call's own answer

unfoldable pub plain_next : Result (Option Given) Refusal → (at : ℕ) → Next
plain_next (Ok (Some g)) at = a_piece g.piece g.next.at
plain_next (Ok None) at = no_piece 0 0 1 at
plain_next (Err r) at = no_piece r.number r.place 0 0

unfoldable pub plain_file_next : Result (Option Given) ListRefusal → (at : ℕ) → FileNext
plain_file_next (Ok (Some g)) at = in_file 0 (a_piece g.piece g.next.at)
plain_file_next (Ok None) at = in_file 0 (no_piece 0 0 1 at)
plain_file_next (Err r) at = in_file r.index (no_piece r.number r.place 0 0)
