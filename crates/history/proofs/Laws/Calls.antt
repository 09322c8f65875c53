-- What the calls answer, case by case, and exactly when each refusal is given. Assumes nothing.
use Prim.Native.Nat.{ℕ, ◌<◌, ◌≤◌}
use native.Mathlib.Omega.{arith}
use native.Mathlib.Decide.{dec_lt}
use mathlib.Core.Path.{◌≡◌, refl, sym, ap, ◌∙◌}
use mathlib.Core.Bool.{Bool, true, false, not, false≢true}
use mathlib.Core.Logic.{◌↔◌}
use mathlib.Core.List.{List, []}
use lib.ListN.{length, drop, length-drop}
use Rattle.outcomes.specs.Outcome.{Outcome, refused, done, NoneHolds, Given}
use Rattle.outcomes.specs.Answers.{answer_of}
use Rattle.outcomes.proofs.Laws.Outcome.{done_none, done_is, refused_exactly, answered_exactly}
use Rattle.codec.proofs.Laws.All.{all_left, all_right, all_append}
use Rattle.slices.specs.Accepts.{Accepts}
use Rattle.slices.specs.Refusals.{list_rows, check_outcome, checked}
use Rattle.slices.proofs.Laws.Refusals.{list_stops, list_lets, check_stops, check_lets, none_accepts, accepted_exactly, check_answered_exactly}
use Rattle.history.specs.History.{begins, history_rows, history_outcome, told, part_for, added_part, Continues}
use Rattle.history.proofs.Laws.Begins.{begins_longer, begins_exactly}
use Rattle.outcomes.specs.Outcome.{Refusal}
use Rattle.std.specs.Prelude.{Ok, Err}

-- ---- what an answer says

told_no : (o : Outcome Bool) → told o ≡ Ok false → o ≡ done false
unfolding answer_of
told_no (refused r) h = let z : ◌≡◌ {A = ℕ} 0 1 = cc in absurd (omega arith)
told_no (done true) h = let z : ◌≡◌ {A = ℕ} 0 1 = cc in absurd (omega arith)
told_no (done false) h = refl

told_yes : (o : Outcome Bool) → told o ≡ Ok true → o ≡ done true
unfolding answer_of
told_yes (refused r) h = let z : ◌≡◌ {A = ℕ} 0 1 = cc in absurd (omega arith)
told_yes (done true) h = refl
told_yes (done false) h = let z : ◌≡◌ {A = ℕ} 0 1 = cc in absurd (omega arith)

told_refused : (o : Outcome Bool) (r : Refusal) → told o ≡ Err r → o ≡ refused r
unfolding answer_of
told_refused (refused q) r h = let e : q ≡ r = cc in ap refused e
told_refused (done true) r h = let z : ◌≡◌ {A = ℕ} 0 1 = cc in absurd (omega arith)
told_refused (done false) r h = let z : ◌≡◌ {A = ℕ} 0 1 = cc in absurd (omega arith)

-- ---- what is to be answered

pub told_of_refused : (o : Outcome Bool) (r : Refusal) → o ≡ refused r → Err r ≡ told o
unfolding answer_of
told_of_refused o r e = rw e

pub told_of_done : (o : Outcome Bool) (t : Bool) → o ≡ done t → {s : Bool} → t ≡ s → Ok s ≡ told o
unfolding answer_of
told_of_done o t e f = rw (e, f)

module _ (older newer : List ℕ) where
  -- ---- whether the list was rewritten

  pub history_older : (r : Refusal) → checked (check_outcome older) ≡ Err r → history_outcome older newer ≡ refused r
  unfolding history_outcome history_rows
  history_older r e = list_stops older _ _ r e

  module _ (n : ℕ) (e : checked (check_outcome older) ≡ Ok n) where
    pub history_newer : (r : Refusal) → checked (check_outcome newer) ≡ Err r → history_outcome older newer ≡ refused r
    unfolding history_outcome history_rows
    history_newer r f = list_lets older _ _ n e ∙ check_stops newer _ r f

    pub history_both : (m : ℕ) → checked (check_outcome newer) ≡ Ok m → history_outcome older newer ≡ done (not (begins older newer))
    unfolding history_outcome history_rows
    history_both m f = list_lets older _ _ n e ∙ check_lets newer _ m f

  pub history_refused_exactly : (r : Refusal) → (history_outcome older newer ≡ refused r) ↔ Given (history_rows older newer) r
  unfolding history_outcome
  history_refused_exactly r = refused_exactly (not (begins older newer)) (history_rows older newer) r

  pub history_answered_exactly : (history_outcome older newer ≡ done (not (begins older newer))) ↔ NoneHolds (history_rows older newer)
  unfolding history_outcome
  history_answered_exactly = answered_exactly (not (begins older newer)) (history_rows older newer)

  module _ (t : Bool) (h : history_outcome older newer ≡ done t) where
    -- both lists are accepted
    pub history_accepts : Accepts older × Accepts newer
    unfolding history_outcome history_rows
    history_accepts =
        let n = done_none (not (begins older newer)) (history_rows older newer) t h in
        (none_accepts older (all_left _ (list_rows older) (list_rows newer) n), none_accepts newer (all_right _ (list_rows older) (list_rows newer) n))

    pub history_says : t ≡ not (begins older newer)
    unfolding history_outcome
    history_says = done_is (not (begins older newer)) (history_rows older newer) t h

  -- ---- what follows

  pub no_begins : history_outcome older newer ≡ done false → begins older newer ≡ true
  no_begins h = go (begins older newer) refl
    where
      go : (t : Bool) → begins older newer ≡ t → begins older newer ≡ true
      go true e = e
      go false e = absurd (false≢true (history_says false h ∙ ap not e))

  pub no_shorter : told (history_outcome older newer) ≡ Ok false → length older ≤ length newer
  no_shorter h = go (dec_lt (length newer) (length older))
    where
      go : Dec (length newer < length older) → length older ≤ length newer
      go (yes l) = absurd (false≢true (sym (begins_longer older newer l) ∙ no_begins (told_no _ h)))
      go (no l) = omega arith

  -- "where the older is a beginning of the newer": exactly then the list was not rewritten
  accepted_says : Accepts older → Accepts newer → history_outcome older newer ≡ done (not (begins older newer))
  unfolding history_rows
  accepted_says a n = history_answered_exactly.1 (all_append _ (list_rows older) (list_rows newer) (accepts_none older a) (accepts_none newer n))
    where
      accepts_none : (bs : List ℕ) → Accepts bs → NoneHolds (list_rows bs)
      accepts_none bs b = (check_answered_exactly bs).0 ((accepted_exactly bs).1 b)

  pub no_exactly : (history_outcome older newer ≡ done false) ↔ (Accepts older × Accepts newer × Continues older newer)
  no_exactly = (
    (λ h. let a = history_accepts false h in (a.0, a.1, (begins_exactly older newer).0 (no_begins h))),
    (λ h. accepted_says h.0 h.1 ∙ ap (λ (t : Bool). done (not t)) ((begins_exactly older newer).1 h.2)),
  )

  pub yes_exactly : (history_outcome older newer ≡ done true) ↔ (Accepts older × Accepts newer × (Continues older newer → ⊥))
  yes_exactly = (
    (λ h.
        let a = history_accepts true h in
        (a.0, a.1, λ c. false≢true (sym (ap not ((begins_exactly older newer).1 c)) ∙ sym (history_says true h)))),
    (λ h. accepted_says h.0 h.1 ∙ ap (λ (t : Bool). done (not t)) (differs (begins older newer) refl h.2)),
  )
    where
      differs : (t : Bool) → begins older newer ≡ t → (Continues older newer → ⊥) → begins older newer ≡ false
      differs true e f = absurd (f ((begins_exactly older newer).0 e))
      differs false e f = e

  -- ---- the part, by the answer

  pub part_no : told (history_outcome older newer) ≡ Ok false → added_part older newer ≡ drop (length older) newer
  unfolding added_part part_for
  part_no h = rw (told_no _ h)

  pub part_yes : told (history_outcome older newer) ≡ Ok true → added_part older newer ≡ newer
  unfolding added_part part_for
  part_yes h = rw (told_yes _ h)

  pub part_refused : (r : Refusal) → told (history_outcome older newer) ≡ Err r → added_part older newer ≡ []
  unfolding added_part part_for
  part_refused r h = rw (told_refused _ r h)

  -- it is no longer than the newer list
  pub part_fits : length (added_part older newer) ≤ length newer
  unfolding added_part part_for
  part_fits = go (history_outcome older newer)
    where
      go : (o : Outcome Bool) → length (part_for o older newer) ≤ length newer
      go (refused r) = omega arith
      go (done true) = omega arith
      go (done false) = rw length-drop (omega arith)
