-- Reading is the inverse of writing, over the texts of a kind: any list for text, bytes for keys of a fixed width. Assumes nothing.
use Rattle.std.specs.Prelude.{ℕ, ◌≡◌, Bool, true, List}
use Rattle.outcomes.specs.Numbers.{not_of_form}
use Rattle.outcomes.specs.Outcome.{Outcome, refused, done, refusal}
use Rattle.outcomes.specs.Outcome.{Refusal}

abbrev pub Any : List ℕ → Type 0
Any t = Unit {0}

pub record Inverse {A : Type 0} (Kind : List ℕ → Type 0) (allowed : A → Bool) (text : A → List ℕ) (read : List ℕ → Outcome A) : Type 0 where
  -- the text of an allowed value gives it back
  pub back : (v : A) → allowed v ≡ true → read (text v) ≡ done v
  -- an accepted text is the text of what was read, which is allowed
  pub forth : (t : List ℕ) → Kind t → (v : A) → read t ≡ done v → (t ≡ text v) × (allowed v ≡ true)
  -- any other is refused with 13
  pub only : (t : List ℕ) (r : Refusal) → read t ≡ refused r → r ≡ refusal not_of_form 0
