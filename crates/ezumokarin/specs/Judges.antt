-- What is said of a plan, as a struct of numbers: the verdict, and the number of the wrong piece or the place of the byte. On a refusal there is no
-- verdict, and its number is 0. Assumes nothing.
use Rattle.std.specs.Prelude.{ℕ, Result, Ok, Err}
use Rattle.outcomes.specs.Outcome.{OutcomeOf, refused, done}
use Rattle.joined.specs.Refusals.{ListRefusal}
use Rattle.judging.specs.Judge.{Verdict, accepted, piece, byte}
use Rattle.judging.specs.declared.Judged.{Judged as JudgedOf}
use Rattle.judging.specs.declared.Judged.TheVariants as judged
use Rattle.ezumokarin.specs.declared.Judged.{Judged}

-- the numbers of the verdicts
abbrev pub accepted_verdict : ℕ
accepted_verdict = 1

abbrev pub wrong_piece_verdict : ℕ
wrong_piece_verdict = 2

abbrev pub wrong_byte_verdict : ℕ
wrong_byte_verdict = 3

abbrev pub with_verdict : (verdict at : ℕ) → Judged
with_verdict verdict at = record { refusal = 0; place = 0; index = 0; verdict = verdict; at = at }

abbrev pub no_verdict : ListRefusal → Judged
no_verdict r = record { refusal = r.number; place = r.place; index = r.index; verdict = 0; at = 0 }

unfoldable pub plain_verdict : Verdict → Judged
plain_verdict accepted = with_verdict accepted_verdict 0
plain_verdict (piece k) = with_verdict wrong_piece_verdict k
plain_verdict (byte i) = with_verdict wrong_byte_verdict i

unfoldable pub judged_plan : OutcomeOf ListRefusal Verdict → Judged
unfolding plain_verdict
judged_plan (refused r) = no_verdict r
judged_plan (done v) = plain_verdict v

-- the same of the call's own answer
unfoldable pub plain_judged : Result JudgedOf ListRefusal → Judged
plain_judged (Ok judged.Accepted) = with_verdict accepted_verdict 0
plain_judged (Ok (judged.WrongPiece k)) = with_verdict wrong_piece_verdict k
plain_judged (Ok (judged.WrongByte i)) = with_verdict wrong_byte_verdict i
plain_judged (Err r) = no_verdict r
