-- What the call `judge` is to do: its refusals, in the order of paper 02 (L9), and its answer. Assumes nothing.
use Rattle.std.specs.Prelude.{ℕ, List, length, Result, Ok, Err}
use Rattle.outcomes.specs.Outcome.{OutcomeOf, done, first_of}
use Rattle.outcomes.specs.Answers.{answer_of}
use Rattle.joined.specs.Refusals.{ListRefusal}
use Rattle.plans.specs.Plan.{cut_to}
use Rattle.plans.specs.Location.{Site}
use Rattle.files.specs.Calls.{lists_in, chunks_rows}
use Rattle.files.specs.File.{site_from, file_end}
use Rattle.judging.specs.Judge.{Verdict, accepted, piece, byte, verdict}
use Rattle.judging.specs.declared.Judged.{Judged}
use Rattle.judging.specs.declared.Judged.TheVariants as judged

-- where byte i of the read lies
unfoldable pub site_in : List ℕ → List ℕ → (first B start i : ℕ) → Site
site_in bs lengths first B start i = site_from first B (lists_in bs lengths) start i

-- how many bytes the read has, cut to the file's end and the last list's
unfoldable pub read_length : List ℕ → List ℕ → (first file_len start count : ℕ) → ℕ
read_length bs lengths first file_len start count = cut_to (file_end first file_len (length (lists_in bs lengths))) start count

-- 21, 8, list by list 1, 2, 3 to 6, 16; nothing is written, so there is no 12
unfoldable pub judge_outcome : List ℕ → List ℕ → (first file_len B start count : ℕ) → List ℕ → OutcomeOf ListRefusal Verdict
judge_outcome bs lengths first file_len B start count plan =
    first_of (chunks_rows bs lengths first B)
    (done (verdict (site_in bs lengths first B start) (read_length bs lengths first file_len start count) plan))

unfoldable pub said : Verdict → Judged
said accepted = judged.Accepted
said (piece k) = judged.WrongPiece k
said (byte i) = judged.WrongByte i

abbrev pub judge_answer : OutcomeOf ListRefusal Verdict → Result Judged ListRefusal
judge_answer o = answer_of Err (λ (v : Verdict). Ok (said v)) o
