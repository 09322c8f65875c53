-- What writing and reading come to, for every form. Refusal 13 (paper 01): "a name or key not of the form above, or numbers to be
-- written that the form doesn't allow"; it stands before 12. Assumes nothing.
use Rattle.std.specs.Prelude.{ℕ, ◌<◌, ◌≤◌, ◌≡◌, ◌↔◌, length, Bool, true, false, not, List, [], ◌∷◌}
use Rattle.outcomes.specs.Numbers.{not_of_form, short_buffer}
use Rattle.outcomes.specs.Outcome.{Outcome, refused, done, refusal, row, first_of, too_short}
use Rattle.texts.specs.Parts.{Scan, found, stop}

-- a text is written where its numbers are allowed and the buffer of `room` bytes holds it
unfoldable pub write_text : Bool → List ℕ → ℕ → Outcome (List ℕ)
write_text allowed text room = first_of (row (not allowed) not_of_form 0 ∷ too_short text room ∷ []) (done text)

-- a text that was read gives what its numbers stand for
unfoldable pub reading : {A : Type 0} → (List ℕ → A) → Scan → Outcome A
reading stands (found ns) = done (stands ns)
reading stands (stop place) = refused (refusal not_of_form 0)

-- demand 1 for a call that writes
pub record WriterRefuses (outcome : ℕ → Outcome (List ℕ)) (allowed : Bool) (text : List ℕ) : Type 0 where
  -- 13 exactly where the form does not allow the numbers
  pub form : (room : ℕ) → (outcome room ≡ refused (refusal not_of_form 0)) ↔ (allowed ≡ false)
  -- else 12 exactly where the buffer is too short
  pub short : (room : ℕ) → (outcome room ≡ refused (refusal short_buffer 0)) ↔ ((allowed ≡ true) × (room < length text))
  -- else the text is written
  pub else : (room : ℕ) → (outcome room ≡ done text) ↔ ((allowed ≡ true) × (length text ≤ room))
