-- A call's answer as numbers is its outcome's. Assumes nothing.
use Prim.Native.Nat.{ℕ, ◌-◌, ◌≤◌}
use native.Mathlib.Omega.{arith}
use native.Mathlib.Nat.{sub_self}
use mathlib.Core.Path.{◌≡◌, refl}
use mathlib.Core.Bool.{Bool, true, false}
use mathlib.Core.List.{List}
use Rattle.outcomes.specs.Outcome.{OutcomeOf, Outcome, refused, done}
use Rattle.outcomes.specs.Answers.{answer, answer_of}
use Rattle.slices.specs.Refusals.{checked}
use lib.ListN.{length, take, drop, length-drop}
use lib.Seq.{take_all}
use Rattle.codec.proofs.Laws.All.{rest_whole}
use Rattle.compaction.specs.Calls.{Both, compact_answer}
use Rattle.ezumokarin.specs.Compact.{wrote_both, plain_compacted}
use Rattle.joined.specs.Refusals.{ListRefusal}
use Rattle.files.specs.Calls.{wrote_many}
use Rattle.std.specs.Prelude.{Option, Ok, Err}
use Rattle.ezumokarin.specs.Files.{wrote_file, plain_file}
use Rattle.history.specs.History.{history_outcome, told, part_for, added_part}
use Rattle.history.proofs.Laws.Calls.{no_shorter}
use Rattle.ezumokarin.specs.Changes.{part_in, plain_part}
use Rattle.keys.specs.Keys.{Chunk as ChunkOf, chunk_answer}
use Rattle.names.specs.Names.{Object as ObjectOf, Full, object_answer, full_answer, volume_part}
use Rattle.ezumokarin.specs.Names.{object_read, full_read, chunk_read, plain_object, plain_chunk}
use Rattle.seeking.specs.Seek.{sought}
use Rattle.seeking.specs.declared.Found.{Found as FoundOf}
use Rattle.ezumokarin.specs.Seeks.{found_in, plain_sought}
use Rattle.judging.specs.Calls.{said, judge_answer}
use Rattle.judging.specs.Judge.{Verdict, accepted, piece, byte}
use Rattle.ezumokarin.specs.Judges.{plain_verdict, judged_plan, plain_judged}
use Rattle.stepping.specs.Step.{Step, given, finished}
use Rattle.stepping.specs.Calls.{as_given, next_answer, next_file_answer}
use Rattle.ezumokarin.specs.Steps.{plain_step, in_file, stepped, stepped_file, plain_next, plain_file_next}
use Rattle.ezumokarin.specs.Plain.{counted, wrote, plain_answer}

pub plain_counted : (o : Outcome ℕ) → plain_answer (checked o) ≡ counted o
unfolding plain_answer answer_of counted
plain_counted (refused r) = refl
plain_counted (done n) = refl

pub plain_wrote : (o : Outcome (List ℕ)) → plain_answer (answer o) ≡ wrote o
unfolding plain_answer answer_of wrote
plain_wrote (refused r) = refl
plain_wrote (done bs) = refl

-- ---- plans across a file

pub plain_file_lem : (o : OutcomeOf ListRefusal (List ℕ)) → plain_file (answer_of Err wrote_many o) ≡ wrote_file o
unfolding plain_file answer_of wrote_file
plain_file_lem (refused r) = refl
plain_file_lem (done bs) = refl

-- ---- names and keys

pub plain_object_lem : (o : Outcome ObjectOf) → plain_object (object_answer o) 0 ≡ object_read o
unfolding plain_object answer_of object_read
plain_object_lem (refused r) = refl
plain_object_lem (done o) = refl

pub plain_full : (o : Outcome Full) → plain_object (full_answer o) (length (volume_part o)) ≡ full_read o
unfolding plain_object answer_of volume_part full_read
plain_full (refused r) = refl
plain_full (done f) = refl

pub plain_chunk_lem : (o : Outcome ChunkOf) → plain_chunk (chunk_answer o) ≡ chunk_read o
unfolding plain_chunk answer_of chunk_read
plain_chunk_lem (refused r) = refl
plain_chunk_lem (done c) = refl

-- ---- compaction

pub plain_both : (o : Outcome Both) → plain_compacted (compact_answer o) ≡ wrote_both o
unfolding plain_compacted answer_of wrote_both
plain_both (refused r) = refl
plain_both (done w) = refl

-- ---- a search

pub plain_sought_lem : (o : Outcome (Option FoundOf)) → plain_sought (sought o) ≡ found_in o
unfolding plain_sought answer_of found_in
plain_sought_lem (refused r) = refl
plain_sought_lem (done f) = refl

-- ---- what is new

module _ (older newer : List ℕ) where
  pub plain_part_lem : plain_part (told (history_outcome older newer)) (length newer - length (added_part older newer)) (length (added_part older newer))
      ≡ part_in (history_outcome older newer) (length older) (length newer)
  unfolding added_part part_for plain_part answer_of part_in
  plain_part_lem = go (history_outcome older newer) (no_shorter older newer)
    where
      go : (o : Outcome Bool) → (told o ≡ Ok false → length older ≤ length newer)
          → plain_part (told o) (length newer - length (part_for o older newer)) (length (part_for o older newer)) ≡ part_in o (length older) (length newer)
      go (refused r) h = refl
      go (done true) h = rw sub_self
      go (done false) h =
          let l = h refl in
          let e : length newer - (length newer - length older) ≡ length older = omega arith in
          simp (length-drop, e)

  -- the offset and the length are those of the part that `added` hands back
  pub part_stands : let p = part_in (history_outcome older newer) (length older) (length newer) in take p.length (drop p.offset newer) ≡ added_part older newer
  unfolding added_part part_for part_in
  part_stands = go (history_outcome older newer)
    where
      go : (o : Outcome Bool) → let p = part_in o (length older) (length newer) in take p.length (drop p.offset newer) ≡ part_for o older newer
      go (refused r) = refl
      go (done true) = take_all (length newer) newer (omega arith)
      go (done false) = rest_whole newer (length older)

-- ---- pieces one at a time

said_next_lem : (s : Step) (at : ℕ) → plain_next (Ok (as_given s)) at ≡ plain_step s at
unfolding as_given plain_next plain_step
said_next_lem (given p to) at = refl
said_next_lem finished at = refl

pub plain_next_lem : (o : Outcome Step) (at : ℕ) → plain_next (next_answer o) at ≡ stepped o at
unfolding plain_next answer_of stepped
plain_next_lem (refused r) at = refl
plain_next_lem (done s) at = said_next_lem s at

said_file_next_lem : (s : Step) (at : ℕ) → plain_file_next (Ok (as_given s)) at ≡ in_file 0 (plain_step s at)
unfolding as_given plain_file_next plain_step
said_file_next_lem (given p to) at = refl
said_file_next_lem finished at = refl

pub plain_file_next_lem : (o : OutcomeOf ListRefusal Step) (at : ℕ) → plain_file_next (next_file_answer o) at ≡ stepped_file o at
unfolding plain_file_next answer_of stepped_file
plain_file_next_lem (refused r) at = refl
plain_file_next_lem (done s) at = said_file_next_lem s at

-- what is said of a plan, both ways
pub plain_judged_lem : (o : OutcomeOf ListRefusal Verdict) → plain_judged (judge_answer o) ≡ judged_plan o
unfolding plain_judged judged_plan plain_verdict answer_of said
plain_judged_lem (refused r) = refl
plain_judged_lem (done accepted) = refl
plain_judged_lem (done (piece k)) = refl
plain_judged_lem (done (byte i)) = refl
