-- Laws of answers: what calls return and leave, case by case, and what an answer tells. Assumes nothing.
use Prim.Native.Nat.{ℕ, ◌<◌, ◌≤◌}
use mathlib.Core.Path.{◌≡◌, refl, sym, ap, ◌∙◌}
use mathlib.Core.List.{List}
use native.Mathlib.Omega.{arith}
use native.Mathlib.Decide.{dec_lt}
use lib.ListN.{length, take}
use Rattle.codec.specs.All.{All}
use Rattle.codec.specs.Splice.{splice}
use Rattle.codec.proofs.Laws.Splice.{take-splice}
use Rattle.outcomes.specs.Numbers.{short_buffer}
use Rattle.outcomes.specs.Outcome.{OutcomeOf, refused, done, Outcome, refusal, delivered}
use Rattle.outcomes.proofs.Laws.Outcome.{short_refused, short_done}
use Rattle.outcomes.specs.Answers.{answer_of, left_in, Lent, Replies, Answers, Front, Written}
use Rattle.outcomes.specs.Outcome.{Refusal}
use Rattle.std.specs.Prelude.{Result, Ok, Err}

-- ---- any number of buffers

module _ {R A X : Type 0} {refuse : R → X} {say : A → X} where
  -- a refusal leaves every buffer as it was
  pub replies_refused : (o : OutcomeOf R A) (r q : R) (buffers : List (Lent A)) → o ≡ refused q → r ≡ q
      → All (λ (b : Lent A). b.after ≡ b.before) buffers → Replies refuse say o buffers (refuse r)
  unfolding answer_of left_in
  replies_refused o r q buffers e h k = rw e (record { answers = ap refuse h; leaves = k })

  pub replies_done : (o : OutcomeOf R A) (a : A) (x : X) (buffers : List (Lent A)) → o ≡ done a → x ≡ say a
      → All (λ (b : Lent A). b.after ≡ splice b.before 0 (b.bytes a)) buffers → Replies refuse say o buffers x
  unfolding answer_of left_in
  replies_done o a x buffers e h k = rw e (record { answers = h; leaves = k })

  pub replies_as : (o p : OutcomeOf R A) (x : X) (buffers : List (Lent A)) → o ≡ p → Replies refuse say p buffers x → Replies refuse say o buffers x
  replies_as o p x buffers e h = rw e h

-- ---- one buffer

pub answers_refused : (o : Outcome (List ℕ)) (r : Refusal) (out : List ℕ) → o ≡ refused r → Answers o out (Err r) out
answers_refused o r out e = replies_refused o r r _ e refl (refl, tt)

-- the same for a refusal that a call made
pub answers_refusal : (o : Outcome (List ℕ)) (r q : Refusal) (out : List ℕ) → o ≡ refused q → r ≡ q → Answers o out (Err r) out
answers_refusal o r q out e h = replies_refused o r q _ e h (refl, tt)

pub answers_as : (o p : Outcome (List ℕ)) (out : List ℕ) (a : Result ℕ Refusal) (after : List ℕ) → o ≡ p → Answers p out a after → Answers o out a after
answers_as o p out a after e h = replies_as o p a _ e h

pub answers_done : (o : Outcome (List ℕ)) (bs out after : List ℕ) (n : ℕ) → o ≡ done bs → length bs ≡ n → after ≡ splice out 0 bs → Answers o out (Ok n) after
answers_done o bs out after n e h a = replies_done o bs (Ok n) _ e (ap Ok (sym h)) (a, tt)

-- ---- what an answer tells

pub said_refused : (o : Outcome (List ℕ)) (before after : List ℕ) (r : Refusal) → Answers o before (Err r) after → o ≡ refused r
unfolding answer_of
said_refused (refused q) before after r a = let e : q ≡ r = cc a.answers in ap refused e
said_refused (done bs) before after r a = let z : ◌≡◌ {A = ℕ} 0 1 = cc a.answers in absurd (omega arith)

-- n bytes that are put to the front of a buffer
pub front_of : (before after bs : List ℕ) (n : ℕ) → n ≡ length bs → after ≡ splice before 0 bs → Front bs n after
front_of before after bs n e h = record { counted = e; front = ap (take n) h ∙ take-splice before bs n e }

pub said_wrote : (o : Outcome (List ℕ)) (before after : List ℕ) (n : ℕ) → Answers o before (Ok n) after → Written o n after
unfolding answer_of left_in
said_wrote (refused q) before after n a = let z : ◌≡◌ {A = ℕ} 0 1 = cc a.answers in absurd (omega arith)
said_wrote (done bs) before after n a = record { bytes = bs; outcome = refl; first = front_of before after bs n (cc a.answers) a.leaves.0 }

-- ---- what the answer of a delivery tells

module _ (bs out after : List ℕ) (x : Result ℕ Refusal) (a : Answers (delivered bs (length out)) out x after) where
  short_case : length out < length bs → Answers (refused (refusal short_buffer 0)) out x after
  short_case h = rw (short_refused bs (length out) h) at a

  done_case : length bs ≤ length out → Answers (done bs) out x after
  done_case h = rw (short_done bs (length out) h) at a

  pub short_said : (r : Refusal) → x ≡ Err r → (length out < length bs) × (r ≡ refusal short_buffer 0) × (after ≡ out)
  unfolding answer_of left_in
  short_said r e = go (dec_lt (length out) (length bs))
    where
      go : Dec (length out < length bs) → (length out < length bs) × (r ≡ refusal short_buffer 0) × (after ≡ out)
      go (yes h) =
          let y = short_case h in
          (h, cc (e, y.answers), y.leaves.0)
      go (no h) =
          let y = done_case (omega arith) in
          let z : ◌≡◌ {A = ℕ} 0 1 = cc (e, y.answers) in
          absurd (omega arith)

  pub done_said : (n : ℕ) → x ≡ Ok n → (length bs ≤ length out) × (n ≡ length bs) × (after ≡ splice out 0 bs)
  unfolding answer_of left_in
  done_said n e = go (dec_lt (length out) (length bs))
    where
      go : Dec (length out < length bs) → (length bs ≤ length out) × (n ≡ length bs) × (after ≡ splice out 0 bs)
      go (yes h) =
          let y = short_case h in
          let z : ◌≡◌ {A = ℕ} 0 1 = cc (e, y.answers) in
          absurd (omega arith)
      go (no h) =
          let y = done_case (omega arith) in
          (omega arith, cc (e, y.answers), y.leaves.0)
