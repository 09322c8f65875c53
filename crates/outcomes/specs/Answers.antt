-- What a call returns, and leaves in the buffers that it was lent: in none, in one or in several. Assumes nothing.
use Rattle.std.specs.Prelude.{ℕ, ◌≡◌, List, [], ◌∷◌, length, take, Result, Ok, Err}
use Rattle.outcomes.specs.Outcome.{Refusal}
use Rattle.codec.specs.All.{All}
use Rattle.codec.specs.Splice.{splice}
use Rattle.outcomes.specs.Outcome.{OutcomeOf, refused, done, Outcome}

-- the answer of a call: the refusal, or what is said of what it has done
unfoldable pub answer_of : {R A X : Type 0} → (refuse : R → X) (say : A → X) → OutcomeOf R A → X
answer_of refuse say (refused r) = refuse r
answer_of refuse say (done a) = say a

-- a lent buffer afterwards: unchanged on a refusal; else the bytes that go into it, and then the rest of the buffer as it was
unfoldable pub left_in : {R A : Type 0} → (bytes : A → List ℕ) → OutcomeOf R A → List ℕ → List ℕ
left_in bytes (refused r) out = out
left_in bytes (done a) out = splice out 0 (bytes a)

-- a lent buffer: what goes into it of what was done, what it holds before, and what it holds after
pub record Lent (A : Type 0) : Type 0 where
  pub bytes : A → List ℕ
  pub before : List ℕ
  pub after : List ℕ

abbrev pub lent : {A : Type 0} → (A → List ℕ) → List ℕ → List ℕ → Lent A
lent bytes before after = record { bytes = bytes; before = before; after = after }

-- a call with the outcome o, lent these buffers, answers x
pub record Replies {R A X : Type 0} (refuse : R → X) (say : A → X) (o : OutcomeOf R A) (buffers : List (Lent A)) (x : X) : Type 0 where
  pub answers : x ≡ answer_of refuse say o
  pub leaves : All (λ (b : Lent A). b.after ≡ left_in b.bytes o b.before) buffers

-- ---- a call that writes bytes into one buffer

-- it says how many
abbrev pub how_many : List ℕ → Result ℕ Refusal
how_many bs = Ok (length bs)

abbrev pub answer : Outcome (List ℕ) → Result ℕ Refusal
answer o = answer_of Err how_many o

abbrev pub buffer : Outcome (List ℕ) → List ℕ → List ℕ
buffer o out = left_in (λ bs. bs) o out

abbrev pub Answers : Outcome (List ℕ) → List ℕ → Result ℕ Refusal → List ℕ → Type 0
Answers o before a after = Replies Err how_many o (lent (λ bs. bs) before after ∷ []) a

-- ---- what was written

-- bs are the first n bytes of a buffer, and n is as many as they are
pub record Front (bs : List ℕ) (n : ℕ) (after : List ℕ) : Type 0 where
  pub counted : n ≡ length bs
  pub front : take n after ≡ bs

-- what a call wrote: as many bytes as it says, at the front of the buffer
pub record Written (o : Outcome (List ℕ)) (n : ℕ) (after : List ℕ) : Type 0 where
  pub bytes : List ℕ
  pub outcome : o ≡ done bytes
  pub first : Front bytes n after
