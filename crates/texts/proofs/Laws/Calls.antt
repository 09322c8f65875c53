-- Laws of writing and reading, for every form: which refusal is given, and exactly when. Assumes nothing.
use Prim.Native.Nat.{ℕ, ◌<◌, ◌≤◌}
use native.Mathlib.Omega.{arith}
use mathlib.Core.Path.{◌≡◌, refl, sym, ap, ◌∙◌}
use mathlib.Core.Bool.{Bool, true, false, cond, not}
use mathlib.Core.Logic.{◌↔◌}
use mathlib.Core.List.{List, [], ◌∷◌}
use borrow.Author.Tests.{ltb-true, ltb-false, lt-ltb, le-ltb}
use lib.Dec.{ltb}
use lib.ListN.{length}
use Rattle.codec.specs.Inner.{Puts}
use Rattle.outcomes.specs.Numbers.{not_of_form, short_buffer}
use Rattle.outcomes.specs.Outcome.{Outcome, refused, done, refusal, first_of, too_short}
use Rattle.outcomes.specs.Answers.{Answers}
use Rattle.outcomes.specs.Outcome.{Refusal}
use Rattle.std.specs.Prelude.{Result, Ok, Err, IsErrAnd, MatchResult}
use Rattle.std.proofs.lemmas.Result.{err_from_is_err_and}
use Rattle.outcomes.specs.Answers.{answer_of}
use Rattle.texts.specs.Inner.{read_by}
use Rattle.outcomes.proofs.Laws.Answers.{answers_refused, answers_done}
use Rattle.texts.specs.Parts.{Scan, found, stop}
use Rattle.texts.specs.Calls.{write_text, reading, WriterRefuses}

-- 12 and 13 differ
differ : {B : Type 0} {A : Type 0} → ◌≡◌ {A = Outcome A} (refused (refusal short_buffer 0)) (refused (refusal not_of_form 0)) → B
differ e =
    let p : refusal short_buffer 0 ≡ refusal not_of_form 0 = cc in
    let n : ◌≡◌ {A = ℕ} short_buffer not_of_form = ap (λ (r : Refusal). r.number) p in
    absurd (omega arith)

-- ---- writing

module _ (allowed : Bool) (text : List ℕ) (room : ℕ) where
  -- numbers that are not allowed
  pub write_not : allowed ≡ false → write_text allowed text room ≡ refused (refusal not_of_form 0)
  unfolding write_text first_of
  write_not e = rw e

  -- allowed numbers: only the buffer counts
  pub write_room : allowed ≡ true → write_text allowed text room ≡ first_of (too_short text room ∷ []) (done text)
  unfolding write_text first_of
  write_room e = rw e

  -- 13 exactly where the form does not allow the numbers
  pub write_13 : (write_text allowed text room ≡ refused (refusal not_of_form 0)) ↔ (allowed ≡ false)
  unfolding write_text first_of
  write_13 = (go allowed (ltb room (length text)), write_not)
    where
      go : (t u : Bool) → cond (not t) (refused (refusal not_of_form 0)) (cond u (refused (refusal short_buffer 0)) (done text)) ≡ refused (refusal not_of_form 0) → t ≡ false
      go true true e = differ e
      go true false e = let z : ◌≡◌ {A = ℕ} 0 1 = cc in absurd (omega arith)
      go false u e = refl

  -- else 12 exactly where the buffer is too short
  pub write_12 : (write_text allowed text room ≡ refused (refusal short_buffer 0)) ↔ ((allowed ≡ true) × (room < length text))
  unfolding write_text first_of
  write_12 = (λ e. go allowed (ltb room (length text)) refl e, λ h. rw (h.0, lt-ltb room (length text) h.1))
    where
      go : (t u : Bool) → ltb room (length text) ≡ u → cond (not t) (refused (refusal not_of_form 0)) (cond u (refused (refusal short_buffer 0)) (done text)) ≡ refused (refusal short_buffer 0)
          → (t ≡ true) × (room < length text)
      go true true h e = (refl, ltb-true room (length text) h)
      go true false h e = let z : ◌≡◌ {A = ℕ} 0 1 = cc in absurd (omega arith)
      go false u h e = differ (sym e)

  -- else the text is written
  pub write_done : (write_text allowed text room ≡ done text) ↔ ((allowed ≡ true) × (length text ≤ room))
  unfolding write_text first_of
  write_done = (λ e. go allowed (ltb room (length text)) refl e, λ h. rw (h.0, le-ltb room (length text) h.1))
    where
      go : (t u : Bool) → ltb room (length text) ≡ u → cond (not t) (refused (refusal not_of_form 0)) (cond u (refused (refusal short_buffer 0)) (done text)) ≡ done text
          → (t ≡ true) × (length text ≤ room)
      go true true h e = let z : ◌≡◌ {A = ℕ} 0 1 = cc in absurd (omega arith)
      go true false h e = (refl, ltb-false room (length text) h)
      go false u h e = let z : ◌≡◌ {A = ℕ} 0 1 = cc in absurd (omega arith)

-- what a call that writes answers, case by case
pub answers_not : (allowed : Bool) (text out : List ℕ) (r : Refusal) → allowed ≡ false → r ≡ refusal not_of_form 0 → Answers (write_text allowed text (length out)) out (Err r) out
answers_not allowed text out r e n = answers_refused _ r out (write_not allowed text (length out) e ∙ ap refused (sym n))

pub answers_line : (allowed : Bool) (text line out after : List ℕ) (a : Result ℕ Refusal) → allowed ≡ true → line ≡ text
    → Answers (first_of (too_short line (length out) ∷ []) (done line)) out a after → Answers (write_text allowed text (length out)) out a after
answers_line allowed text line out after a e l r = rw (write_room allowed text (length out) e, ← l) r

-- the buffer is too short for an allowed text
pub answers_short : (allowed : Bool) (text out : List ℕ) (r : Refusal) → allowed ≡ true → length out < length text → r ≡ refusal short_buffer 0
    → Answers (write_text allowed text (length out)) out (Err r) out
answers_short allowed text out r e h n = answers_refused _ r out ((write_12 allowed text (length out)).1 (e, h) ∙ ap refused (sym n))

-- an allowed text was put straight into the buffer
pub answers_put : (allowed : Bool) (text out after : List ℕ) (room n : ℕ) → allowed ≡ true → length text ≤ length out → Puts out 0 text room n after
    → Answers (write_text allowed text (length out)) out (Ok n) after
answers_put allowed text out after room n e h p =
    answers_done _ text out after n ((write_done allowed text (length out)).1 (e, h)) (omega (arith, p.ends)) p.leaves

-- ---- reading

pub reading_only : {A : Type 0} (stands : List ℕ → A) (s : Scan) (r : Refusal) → reading stands s ≡ refused r → r ≡ refusal not_of_form 0
unfolding reading
reading_only stands (found ns) r e = let z : ◌≡◌ {A = ℕ} 0 1 = cc in absurd (omega arith)
reading_only stands (stop place) r e = cc

-- ---- demand 1 for a call that writes

pub writer_refuses : (allowed : Bool) (text : List ℕ) → WriterRefuses (write_text allowed text) allowed text
writer_refuses allowed text = record { form = write_13 allowed text; short = write_12 allowed text; else = write_done allowed text }

-- what a call that reads makes of the reading of all parts: its place is left out
pub answers_read : {A B : Type 0} (says : List ℕ → B) (stands : List ℕ → A) (named : A → Result B Refusal) → ((ns : List ℕ) → Ok (says ns) ≡ named (stands ns)) → (s : Scan) (a : Result B Refusal) {Q : ℕ → Refusal → Type 0}
    → MatchResult (read_by says s) (λ x. a ≡ Ok x) (λ i. IsErrAnd a (Q i)) → ((i : ℕ) (r : Refusal) → Q i r → r ≡ refusal not_of_form 0) → a ≡ answer_of Err named (reading stands s)
unfolding read_by answer_of reading
answers_read says stands named same (found ns) a m q = m ∙ same ns
answers_read says stands named same (stop i) a m q = let p = err_from_is_err_and a m in p.1 ∙ ap Err (q i p.0 p.2)
