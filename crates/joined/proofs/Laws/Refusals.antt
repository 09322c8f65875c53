-- Laws of the refusals of several lists: the first refused list gives the refusal, with its index. Assumes nothing.
use Prim.Native.Nat.{ℕ, suc, ◌+◌}
use native.Mathlib.Omega.{arith}
use mathlib.Core.Path.{◌≡◌, refl, sym, ap, ◌∙◌}
use mathlib.Core.Logic.{◌↔◌}
use mathlib.Core.Bool.{Bool, true, false, cond}
use mathlib.Core.List.{List, [], ◌∷◌, ◌++◌}
use lib.ListN.{length}
use Rattle.codec.specs.All.{All}
use Rattle.codec.proofs.Laws.All.{all_left, all_right}
use Rattle.outcomes.specs.Outcome.{OutcomeOf, refused, done, Row, Outcome, first_of, NoneHolds}
use Rattle.outcomes.specs.Answers.{answer_of}
use Rattle.outcomes.proofs.Laws.Outcome.{first_of-append, none_passes, done_none, done_is, stops}
use Rattle.slices.specs.Accepts.{Accepts}
use Rattle.slices.specs.Record.{count}
use Rattle.slices.specs.Refusals.{list_rows, check_outcome, checked}
use Rattle.slices.proofs.Laws.Refusals.{none_accepts, accepted_exactly, check_answered_exactly, check_accepts}
use Rattle.joined.specs.Refusals.{of_list, rows_of, lists_rows, lists_outcome, checked_lists, FirstRefusedList}
use Rattle.outcomes.specs.Outcome.{Refusal}
use Rattle.joined.specs.Refusals.{ListRefusal}
use Rattle.std.specs.Prelude.{Ok, Err}

-- ---- a table that speaks of one list: its rows hold as they do without the index

module _ (i : ℕ) where
  rows_none : (rows : List Row) → NoneHolds rows → NoneHolds (rows_of i rows)
  unfolding rows_of
  rows_none [] h = tt
  rows_none (r ∷ rows) h = (h.0, rows_none rows h.1)

  none_rows : (rows : List Row) → NoneHolds (rows_of i rows) → NoneHolds rows
  unfolding rows_of
  none_rows [] h = tt
  none_rows (r ∷ rows) h = (h.0, none_rows rows h.1)

  rows_stop : {A B : Type 0} (a : A) (rows : List Row) (o : OutcomeOf ListRefusal B) (r : Refusal)
      → first_of rows (done a) ≡ refused r → first_of (rows_of i rows) o ≡ refused (of_list i r)
  unfolding first_of rows_of
  rows_stop a [] o r h = let z : ◌≡◌ {A = ℕ} 0 1 = cc in absurd (omega arith)
  rows_stop a (x ∷ rows) o r h = go x.test (rows_stop a rows o r) h
    where
      go : (t : Bool) → (first_of rows (done a) ≡ refused r → first_of (rows_of i rows) o ≡ refused (of_list i r))
          → cond t (refused x.gives) (first_of rows (done a)) ≡ refused r
          → cond t (refused (of_list i x.gives)) (first_of (rows_of i rows) o) ≡ refused (of_list i r)
      go true ih h = let g : x.gives ≡ r = cc in ap (λ (q : Refusal). refused (of_list i q)) g
      go false ih h = ih h

-- ---- list by list

accepts_none : (bs : List ℕ) → Accepts bs → NoneHolds (list_rows bs)
accepts_none bs a = (check_answered_exactly bs).0 ((accepted_exactly bs).1 a)

module _ {A : Type 0} (i : ℕ) (l : List ℕ) (ls : List (List ℕ)) (o : OutcomeOf ListRefusal A) where
  -- a refused list refuses, whatever comes behind it
  pub list_refuses : (r : Refusal) → check_outcome l ≡ refused r → first_of (lists_rows i (l ∷ ls)) o ≡ refused (of_list i r)
  unfolding lists_rows check_outcome
  list_refuses r e = first_of-append (rows_of i (list_rows l)) (lists_rows (suc i) ls) o ∙ rows_stop i (count l) (list_rows l) (first_of (lists_rows (suc i) ls) o) r e

  -- behind an accepted list the next one decides
  pub list_passes : Accepts l → first_of (lists_rows i (l ∷ ls)) o ≡ first_of (lists_rows (suc i) ls) o
  unfolding lists_rows
  list_passes a =
      first_of-append (rows_of i (list_rows l)) (lists_rows (suc i) ls) o
      ∙ none_passes (rows_of i (list_rows l)) (first_of (lists_rows (suc i) ls) o) (rows_none i (list_rows l) (accepts_none l a))

accepts_passes : {A : Type 0} (i : ℕ) (ls : List (List ℕ)) (o : OutcomeOf ListRefusal A) → All Accepts ls → first_of (lists_rows i ls) o ≡ o
unfolding lists_rows first_of
accepts_passes i [] o h = refl
accepts_passes i (l ∷ ls) o h = list_passes i l ls o h.0 ∙ accepts_passes (suc i) ls o h.1

pub none_lists : (i : ℕ) (ls : List (List ℕ)) → NoneHolds (lists_rows i ls) → All Accepts ls
unfolding lists_rows
none_lists i [] h = tt
none_lists i (l ∷ ls) h = (
  none_accepts l (none_rows i (list_rows l) (all_left _ (rows_of i (list_rows l)) (lists_rows (suc i) ls) h)),
  none_lists (suc i) ls (all_right _ (rows_of i (list_rows l)) (lists_rows (suc i) ls) h),
)

-- ---- all are accepted

module _ (i : ℕ) (ls : List (List ℕ)) where
  pub lists_accepted : (n : ℕ) → lists_outcome i ls ≡ done n → All Accepts ls
  unfolding lists_outcome
  lists_accepted n h = none_lists i ls (done_none (length ls) (lists_rows i ls) n h)

  pub lists_counted : (n : ℕ) → lists_outcome i ls ≡ done n → n ≡ length ls
  unfolding lists_outcome
  lists_counted n h = done_is (length ls) (lists_rows i ls) n h

  pub lists_accepted_exactly : (lists_outcome i ls ≡ done (length ls)) ↔ All Accepts ls
  unfolding lists_outcome
  lists_accepted_exactly = (lists_accepted (length ls), accepts_passes i ls (done (length ls)))

-- ---- one is refused

check_done : (bs : List ℕ) (n : ℕ) → check_outcome bs ≡ done n → Accepts bs
unfolding answer_of
check_done bs n e = check_accepts bs n (ap checked e)

module _ {A : Type 0} (a : A) where
  first_refused : (i : ℕ) (ls : List (List ℕ)) (r : ListRefusal) → first_of (lists_rows i ls) (done a) ≡ refused r → FirstRefusedList i ls r
  unfolding first_of lists_rows
  first_refused i [] r h = let z : ◌≡◌ {A = ℕ} 0 1 = cc in absurd (omega arith)
  first_refused i (l ∷ ls) r h = go (check_outcome l) refl (first_refused (suc i) ls r)
    where
      go : (c : Outcome ℕ) → check_outcome l ≡ c → (first_of (lists_rows (suc i) ls) (done a) ≡ refused r → FirstRefusedList (suc i) ls r)
          → FirstRefusedList i (l ∷ ls) r
      go (refused q) e ih =
          let z : i + 0 ≡ i = omega arith in
          let s = list_refuses i l ls (done a) q e in
          record { before = []; here = l; after = ls; stands = refl; accepted = tt; refusal = q; refuses = e; says = rw z (cc) }
      go (done n) e ih =
          let p = check_done l n e in
          let f = ih (sym (list_passes i l ls (done a) p) ∙ h) in
          let z : suc i + length f.before ≡ i + suc (length f.before) = omega arith in
          record {
            before = l ∷ f.before;
            here = f.here;
            after = f.after;
            stands = ap (λ (xs : List (List ℕ)). l ∷ xs) f.stands;
            accepted = (p, f.accepted);
            refusal = f.refusal;
            refuses = f.refuses;
            says = f.says ∙ ap (λ (k : ℕ). of_list k f.refusal) z;
          }

  behind_accepted : (i : ℕ) (before : List (List ℕ)) (l : List ℕ) (after : List (List ℕ)) → All Accepts before → (q : Refusal) → check_outcome l ≡ refused q
      → first_of (lists_rows i (before ++ (l ∷ after))) (done a) ≡ refused (of_list (i + length before) q)
  behind_accepted i [] l after h q e =
      let z : i + 0 ≡ i = omega arith in
      rw z (list_refuses i l after (done a) q e)
  behind_accepted i (b ∷ before) l after h q e =
      let z : suc i + length before ≡ i + suc (length before) = omega arith in
      list_passes i b (before ++ (l ∷ after)) (done a) h.0
      ∙ behind_accepted (suc i) before l after h.1 q e
      ∙ ap (λ (k : ℕ). refused (of_list k q)) z

pub lists_refused_exactly : (i : ℕ) (ls : List (List ℕ)) (r : ListRefusal) → (lists_outcome i ls ≡ refused r) ↔ FirstRefusedList i ls r
unfolding lists_outcome
lists_refused_exactly i ls r = (
  first_refused (length ls) i ls r,
  (λ f.
      ap (λ (xs : List (List ℕ)). first_of (lists_rows i xs) (done (length ls))) f.stands
      ∙ behind_accepted (length ls) i f.before f.here f.after f.accepted f.refusal f.refuses
      ∙ ap refused (sym f.says)),
)

-- ---- what the check tells a call that goes on behind the lists

module _ {A : Type 0} (i : ℕ) (ls : List (List ℕ)) (o : OutcomeOf ListRefusal A) where
  pub lists_stops : (r : ListRefusal) → lists_outcome i ls ≡ refused r → first_of (lists_rows i ls) o ≡ refused r
  unfolding lists_outcome
  lists_stops r h = stops (length ls) (lists_rows i ls) o r h

  pub lists_lets : (n : ℕ) → lists_outcome i ls ≡ done n → first_of (lists_rows i ls) o ≡ o
  lists_lets n h = accepts_passes i ls o (lists_accepted i ls n h)

-- ---- what the check's answer tells a call that makes it

pub said_accepted : (o : OutcomeOf ListRefusal ℕ) (n : ℕ) → checked_lists o ≡ Ok n → o ≡ done n
unfolding answer_of
said_accepted (refused r) n h = let z : ◌≡◌ {A = ℕ} 0 1 = cc in absurd (omega arith)
said_accepted (done m) n h = let e : m ≡ n = cc in ap done e

pub said_refused : (o : OutcomeOf ListRefusal ℕ) (r : ListRefusal) → checked_lists o ≡ Err r → o ≡ refused r
unfolding answer_of
said_refused (refused q) r h = let e : q ≡ r = cc in ap refused e
said_refused (done m) r h = let z : ◌≡◌ {A = ℕ} 0 1 = cc in absurd (omega arith)
