-- Laws of the refusals of a list: what is known of records and lists that are not refused, and the check, record by record.
-- Assumes nothing.
use Prim.Native.Nat.{ℕ, zero, suc, ◌+◌, ◌-◌, ◌%◌, ◌^◌, ◌<◌, ◌≤◌}
use native.Mathlib.Omega.{arith}
use native.Mathlib.Nat.{le_refl}
use native.Mathlib.Decide.{ℕ_discrete}
use native.Mathlib.Numerals.{add-one}
use mathlib.Core.Path.{◌≡◌, refl, sym, ap, ◌∙◌}
use mathlib.Core.Logic.{◌≢◌, ◌↔◌, ◌⊎◌, inl, inr}
use mathlib.Core.Bool.{Bool, true, false, cond, not, ◌&&◌, ◌||◌, false≢true}
use mathlib.Core.List.{List, [], ◌∷◌, ◌++◌}
use lib.Dec.{ltb, eqb}
use lib.ListN.{length}
use borrow.Author.Tests.{ltb-false, eqb-true, eqb-false, eq-eqb, ne_eqb, lt-ltb, le-ltb}
use Rattle.codec.specs.All.{All}
use Rattle.codec.specs.Groups.{groups_from}
use Rattle.slices.specs.Limits.{record_size, chunk, max_records}
use Rattle.slices.specs.Record.{record_at, records_from, count, records, Fits}
use Rattle.slices.specs.Passes.{Passes}
use Rattle.slices.specs.Accepts.{Accepts}
use Rattle.outcomes.specs.Numbers as number
use Rattle.outcomes.specs.Outcome.{Outcome, refused, done, refusal, Row, first_of, NoneHolds, Given}
use Rattle.slices.specs.Refusals.{not_whole, too_many, past_chunk, too_large, zeros_with_slice, past_slice, record_rows, rows_from, size_rows, list_rows, check_outcome, checked}
use Rattle.slices.specs.Inner.{fault, number_at, size_outcome, FirstOther, check_from, Passed, FirstRefused}
use Rattle.codec.proofs.Laws.All.{all_append, all_left, all_right}
use Rattle.slices.proofs.Laws.OneSize.{none_one_size, one_size_none}
use Rattle.outcomes.proofs.Laws.Outcome.{first_of-append, none_passes, done_none, done_is, stops, row_holds, row_passes, refused_exactly, answered_exactly}
use Rattle.slices.specs.declared.Record.{Record}
use Rattle.outcomes.specs.Outcome.{Refusal}
use Rattle.std.specs.Prelude.{Ok, Err}
use Rattle.outcomes.specs.Answers.{answer_of}

-- ---- one record

-- a record passes exactly where none of its rows holds
module _ (r : Record) where
  zeros_sound : (a b c d : Bool) → eqb r.id 0 ≡ a → eqb r.off 0 ≡ b → eqb r.size 0 ≡ c → eqb r.size r.len ≡ d
      → (a && (not b || (not c && not d))) ≡ false → r.id ≡ 0 → (r.off ≡ 0) × ((r.size ≡ 0) ⊎ (r.size ≡ r.len))
  zeros_sound true true true d ea eb ec ed h z = (eqb-true r.off 0 eb, inl (eqb-true r.size 0 ec))
  zeros_sound true true false true ea eb ec ed h z = (eqb-true r.off 0 eb, inr (eqb-true r.size r.len ed))
  zeros_sound true true false false ea eb ec ed h z = absurd (false≢true (sym h))
  zeros_sound true false c d ea eb ec ed h z = absurd (false≢true (sym h))
  zeros_sound false b c d ea eb ec ed h z = absurd (eqb-false r.id 0 ea z)

  within_sound : (a b : Bool) → eqb r.id 0 ≡ a → ltb r.size (r.off + r.len) ≡ b → (not a && b) ≡ false
      → r.id ≢ 0 → r.off + r.len ≤ r.size
  within_sound true b ea eb h z = absurd (z (eqb-true r.id 0 ea))
  within_sound false true ea eb h z = absurd (false≢true (sym h))
  within_sound false false ea eb h z = ltb-false r.size (r.off + r.len) eb

  pub none_pass : (at : ℕ) → NoneHolds (record_rows at r []) → Passes r
  unfolding past_chunk too_large zeros_with_slice past_slice
  none_pass at h =
      record {
        inside = ltb-false chunk (r.pos + r.len) h.0;
        sized = ltb-false chunk r.size h.1.0;
        zeros = zeros_sound (eqb r.id 0) (eqb r.off 0) (eqb r.size 0) (eqb r.size r.len) refl refl refl refl h.1.1.0;
        within = within_sound (eqb r.id 0) (ltb r.size (r.off + r.len)) refl refl h.1.1.1.0;
      }

  -- neither of refusal 5's two faults
  zeros_clear : r.off ≡ 0 → (r.size ≡ 0) ⊎ (r.size ≡ r.len) → (not (eqb r.off 0) || (not (eqb r.size 0) && not (eqb r.size r.len))) ≡ false
  zeros_clear o (inl s) = rw (eq-eqb r.off 0 o, eq-eqb r.size 0 s)
  zeros_clear o (inr s) = rw (eq-eqb r.off 0 o, eq-eqb r.size r.len s) (and-false (not (eqb r.size 0)))
    where
      and-false : (a : Bool) → (a && false) ≡ false
      and-false true = refl
      and-false false = refl

  zeros_none : Passes r → (a : Bool) → eqb r.id 0 ≡ a
      → (a && (not (eqb r.off 0) || (not (eqb r.size 0) && not (eqb r.size r.len)))) ≡ false
  zeros_none h true e = let z = h.zeros (eqb-true r.id 0 e) in zeros_clear z.0 z.1
  zeros_none h false e = refl

  within_none : Passes r → (a : Bool) → eqb r.id 0 ≡ a → (not a && ltb r.size (r.off + r.len)) ≡ false
  within_none h true e = refl
  within_none h false e = le-ltb r.size (r.off + r.len) (h.within (eqb-false r.id 0 e))

  pub pass_none : (at : ℕ) → Passes r → NoneHolds (record_rows at r [])
  unfolding past_chunk too_large zeros_with_slice past_slice
  pass_none at h =
      (le-ltb chunk (r.pos + r.len) h.inside, (le-ltb chunk r.size h.sized, (zeros_none h (eqb r.id 0) refl, (within_none h (eqb r.id 0) refl, tt))))

-- a passing record whose id is a number of 8 bytes is one of 24 bytes
pub passes_fits : (r : Record) → Passes r → r.id < 2 ^ 64 → Fits r
unfolding chunk
passes_fits r h i = go (ℕ_discrete r.id 0)
  where
    go : Dec (r.id ≡ 0) → Fits r
    go (yes z) = omega (arith, (h.zeros z).0)
    go (no z) = omega (arith, h.within z)

-- ---- the number of a record's first refusal

module _ (r : Record) where
  pub fault_3 : chunk < r.pos + r.len → number.past_chunk ≡ fault r
  unfolding fault past_chunk
  fault_3 a = rw (lt-ltb chunk (r.pos + r.len) a)

  module _ (a : r.pos + r.len ≤ chunk) where
    pub fault_4 : chunk < r.size → number.too_large ≡ fault r
    unfolding fault past_chunk too_large
    fault_4 b = rw (le-ltb chunk (r.pos + r.len) a, lt-ltb chunk r.size b)

    module _ (b : r.size ≤ chunk) where
      module _ (z : r.id ≡ 0) where
        pub fault_5_off : r.off ≢ 0 → number.zeros_with_slice ≡ fault r
        unfolding fault past_chunk too_large zeros_with_slice
        fault_5_off o = rw (le-ltb chunk (r.pos + r.len) a, le-ltb chunk r.size b, eq-eqb r.id 0 z, ne_eqb r.off 0 o)

        pub fault_5_size : r.off ≡ 0 → r.size ≢ 0 → r.size ≢ r.len → number.zeros_with_slice ≡ fault r
        unfolding fault past_chunk too_large zeros_with_slice
        fault_5_size o s t =
            rw (
              le-ltb chunk (r.pos + r.len) a,
              le-ltb chunk r.size b,
              eq-eqb r.id 0 z,
              eq-eqb r.off 0 o,
              ne_eqb r.size 0 s,
              ne_eqb r.size r.len t,
            )

        pub fault_0_zeros : r.off ≡ 0 → (r.size ≡ 0) ⊎ (r.size ≡ r.len) → 0 ≡ fault r
        unfolding fault past_chunk too_large zeros_with_slice past_slice
        fault_0_zeros o s = rw (le-ltb chunk (r.pos + r.len) a, le-ltb chunk r.size b, eq-eqb r.id 0 z, zeros_clear r o s)

      module _ (z : r.id ≢ 0) where
        pub fault_6 : r.size < r.off + r.len → number.past_slice ≡ fault r
        unfolding fault past_chunk too_large zeros_with_slice past_slice
        fault_6 e = rw (le-ltb chunk (r.pos + r.len) a, le-ltb chunk r.size b, ne_eqb r.id 0 z, lt-ltb r.size (r.off + r.len) e)

        pub fault_0_slice : r.off + r.len ≤ r.size → 0 ≡ fault r
        unfolding fault past_chunk too_large zeros_with_slice past_slice
        fault_0_slice e = rw (le-ltb chunk (r.pos + r.len) a, le-ltb chunk r.size b, ne_eqb r.id 0 z, le-ltb r.size (r.off + r.len) e)

-- ---- the check, record by record

-- what a record's rows give: its fault, or what follows
fault_rows : {A : Type 0} (r : Record) (at : ℕ) (rest : List Row) (o : Outcome A)
    → first_of (record_rows at r rest) o ≡ cond (eqb (fault r) 0) (first_of rest o) (refused (refusal (fault r) at))
unfolding first_of fault
fault_rows r at rest o = go (past_chunk r) (too_large r) (zeros_with_slice r) (past_slice r)
  where
    go : (a b c d : Bool)
        → cond a (refused (refusal 3 at)) (cond b (refused (refusal 4 at)) (cond c (refused (refusal 5 at)) (cond d (refused (refusal 6 at)) (first_of rest o))))
        ≡ cond (eqb (cond a 3 (cond b 4 (cond c 5 (cond d 6 0)))) 0) (first_of rest o) (refused (refusal (cond a 3 (cond b 4 (cond c 5 (cond d 6 0)))) at))
    go true b c d = refl
    go false true c d = refl
    go false false true d = refl
    go false false false true = refl
    go false false false false = refl

module _ (bs : List ℕ) where
  pub check_1 : length bs % record_size ≢ 0 → check_outcome bs ≡ refused (refusal number.not_whole 0)
  unfolding check_outcome list_rows not_whole
  check_1 h = row_holds _ _ _ _ _ (rw (ne_eqb (length bs % record_size) 0 h))

  pub check_2 : length bs % record_size ≡ 0 → max_records < count bs → check_outcome bs ≡ refused (refusal number.too_many 0)
  unfolding check_outcome list_rows not_whole too_many
  check_2 h l = row_passes _ _ _ _ _ (rw (eq-eqb (length bs % record_size) 0 h)) ∙ row_holds _ _ _ _ _ (lt-ltb max_records (count bs) l)

  pub check_start : length bs % record_size ≡ 0 → count bs ≤ max_records → check_outcome bs ≡ check_from bs 0
  unfolding check_outcome list_rows not_whole too_many records check_from size_outcome
  check_start h l =
      let k : count bs - 0 ≡ count bs = omega arith in
      row_passes _ _ _ _ _ (rw (eq-eqb (length bs % record_size) 0 h)) ∙ row_passes _ _ _ _ _ (le-ltb max_records (count bs) l)
      ∙ first_of-append (rows_from 0 (records_from bs 0 (count bs))) (size_rows [] 0 (records_from bs 0 (count bs))) (done (count bs))
      ∙ rw k

  module _ (i : ℕ) where
    pub check_next : i < count bs → fault (record_at bs i) ≡ 0 → check_from bs i ≡ check_from bs (i + 1)
    unfolding check_from rows_from records_from groups_from record_at
    check_next h e =
        let k : count bs - i ≡ suc (count bs - suc i) = omega arith in
        rw (add-one, k, fault_rows (record_at bs i) i, eq-eqb (fault (record_at bs i)) 0 e)

    pub check_here : i < count bs → fault (record_at bs i) ≢ 0 → check_from bs i ≡ refused (refusal (fault (record_at bs i)) i)
    unfolding check_from rows_from records_from groups_from record_at
    check_here h e =
        let k : count bs - i ≡ suc (count bs - suc i) = omega arith in
        rw (k, fault_rows (record_at bs i) i, ne_eqb (fault (record_at bs i)) 0 e)

    pub check_end : count bs ≤ i → check_from bs i ≡ size_outcome bs
    unfolding check_from rows_from records_from groups_from first_of
    check_end h =
        let k : count bs - i ≡ 0 = omega arith in
        rw k

-- ---- the first refused record

module _ (bs : List ℕ) where
  passed_check : (i : ℕ) → i ≤ count bs → Passed bs i → check_from bs 0 ≡ check_from bs i
  passed_check zero h p = refl
  passed_check (suc i) h p = passed_check i (omega arith) (λ j l. p j (omega arith)) ∙ rw add-one at (check_next bs i (omega arith) (p i (omega arith)))

  -- a record that does not pass
  pub refused_here : (i : ℕ) → i < count bs → Passed bs i → fault (record_at bs i) ≢ 0 → FirstRefused bs i
  unfolding number_at
  refused_here i h p f =
      record {
        within = omega arith;
        says = rw (ne_eqb i (count bs) (λ z. omega arith), ne_eqb (fault (record_at bs i)) 0 f) (passed_check i (omega arith) p ∙ check_here bs i h f);
      }

  -- all pass: then refusal 16 decides
  pub refused_later : Passed bs (count bs) → (p : ℕ) → FirstOther bs p → FirstRefused bs p
  unfolding number_at
  refused_later a p o = record { within = o.within; says = go (ℕ_discrete p (count bs)) }
    where
      rows : check_from bs 0 ≡ size_outcome bs
      rows = passed_check (count bs) (le_refl (count bs)) a ∙ check_end bs (count bs) (le_refl (count bs))

      go : Dec (p ≡ count bs) → check_from bs 0 ≡ cond (eqb p (count bs)) (done (count bs)) (refused (refusal (number_at bs p) p))
      go (yes e) = rows ∙ o.says ∙ rw (eq-eqb p (count bs) e)
      go (no e) = rows ∙ o.says ∙ rw (ne_eqb p (count bs) e, eq-eqb (fault (record_at bs p)) 0 (a p (omega (arith, o.within))))

-- ---- a list that is accepted

rows_pass : (at : ℕ) (rs : List Record) → NoneHolds (rows_from at rs) → All Passes rs
unfolding rows_from
rows_pass at [] h = tt
rows_pass at (r ∷ rs) h =
    (none_pass r at (h.0, (h.1.0, (h.1.1.0, (h.1.1.1.0, tt)))), rows_pass (suc at) rs h.1.1.1.1)

pass_rows : (at : ℕ) (rs : List Record) → All Passes rs → NoneHolds (rows_from at rs)
unfolding rows_from
pass_rows at [] h = tt
pass_rows at (r ∷ rs) h =
    let n = pass_none r at h.0 in
    (n.0, (n.1.0, (n.1.1.0, (n.1.1.1.0, pass_rows (suc at) rs h.1))))

-- a row does not hold
abbrev clear : Row → Type 0
clear r = r.test ≡ false

pub none_accepts : (bs : List ℕ) → NoneHolds (list_rows bs) → Accepts bs
unfolding list_rows not_whole too_many
none_accepts bs h =
    record {
      whole = not-false (eqb (length bs % record_size) 0) refl h.0;
      few = ltb-false max_records (count bs) h.1.0;
      pass = rows_pass 0 (records bs) (all_left clear (rows_from 0 (records bs)) (size_rows [] 0 (records bs)) h.1.1);
      one_size = none_one_size (records bs) (all_right clear (rows_from 0 (records bs)) (size_rows [] 0 (records bs)) h.1.1);
    }
  where
    not-false : (t : Bool) → eqb (length bs % record_size) 0 ≡ t → not t ≡ false → length bs % record_size ≡ 0
    not-false true e g = eqb-true (length bs % record_size) 0 e
    not-false false e g = absurd (false≢true (sym g))

accepts_none : (bs : List ℕ) → Accepts bs → NoneHolds (list_rows bs)
unfolding list_rows not_whole too_many
accepts_none bs a = (
  rw (eq-eqb (length bs % record_size) 0 a.whole),
  (
    le-ltb max_records (count bs) a.few,
    all_append clear (rows_from 0 (records bs)) (size_rows [] 0 (records bs)) (pass_rows 0 (records bs) a.pass) (one_size_none (records bs) a.one_size),
  ),
)

pub accepted_exactly : (bs : List ℕ) → (check_outcome bs ≡ done (count bs)) ↔ Accepts bs
unfolding check_outcome
accepted_exactly bs =
    ((λ h. none_accepts bs (done_none (count bs) (list_rows bs) (count bs) h)), (λ a. none_passes (list_rows bs) (done (count bs)) (accepts_none bs a)))

pub check_refused_exactly : (bs : List ℕ) (r : Refusal) → (check_outcome bs ≡ refused r) ↔ Given (list_rows bs) r
unfolding check_outcome
check_refused_exactly bs r = refused_exactly (count bs) (list_rows bs) r

pub check_answered_exactly : (bs : List ℕ) → (check_outcome bs ≡ done (count bs)) ↔ NoneHolds (list_rows bs)
unfolding check_outcome
check_answered_exactly bs = answered_exactly (count bs) (list_rows bs)

-- ---- what the check's answer tells a call that makes it

checked_done : (o : Outcome ℕ) (n : ℕ) → checked o ≡ Ok n → o ≡ done n
unfolding answer_of
checked_done (refused r) n h = let z : ◌≡◌ {A = ℕ} 0 1 = cc in absurd (omega arith)
checked_done (done m) n h = let e : m ≡ n = cc in ap done e

checked_refused : (o : Outcome ℕ) (r : Refusal) → checked o ≡ Err r → o ≡ refused r
unfolding answer_of
checked_refused (refused q) r h = let e : q ≡ r = cc in ap refused e
checked_refused (done m) r h = let z : ◌≡◌ {A = ℕ} 0 1 = cc in absurd (omega arith)

module _ (bs : List ℕ) where
  pub check_accepts : (n : ℕ) → checked (check_outcome bs) ≡ Ok n → Accepts bs
  unfolding check_outcome
  check_accepts n h = none_accepts bs (done_none (count bs) (list_rows bs) n (checked_done (check_outcome bs) n h))

  -- it counts the records
  pub check_counts : (n : ℕ) → checked (check_outcome bs) ≡ Ok n → n ≡ count bs
  unfolding check_outcome
  check_counts n h = done_is (count bs) (list_rows bs) n (checked_done (check_outcome bs) n h)

  -- an accepted list's rows let through what follows them, and a refused list's do not
  pub check_lets : {A : Type 0} (o : Outcome A) (n : ℕ) → checked (check_outcome bs) ≡ Ok n → first_of (list_rows bs) o ≡ o
  check_lets o n h = none_passes (list_rows bs) o (accepts_none bs (check_accepts n h))

  pub check_stops : {A : Type 0} (o : Outcome A) (r : Refusal) → checked (check_outcome bs) ≡ Err r → first_of (list_rows bs) o ≡ refused r
  unfolding check_outcome
  check_stops o r h = stops (count bs) (list_rows bs) o r (checked_refused (check_outcome bs) r h)

-- a refused list's rows refuse, an accepted one's let through the rows behind them
module _ {A : Type 0} (bs : List ℕ) (rest : List Row) (o : Outcome A) where
  pub list_stops : (r : Refusal) → checked (check_outcome bs) ≡ Err r → first_of (list_rows bs ++ rest) o ≡ refused r
  list_stops r h = first_of-append (list_rows bs) rest o ∙ check_stops bs (first_of rest o) r h

  pub list_lets : (n : ℕ) → checked (check_outcome bs) ≡ Ok n → first_of (list_rows bs ++ rest) o ≡ first_of rest o
  list_lets n h = first_of-append (list_rows bs) rest o ∙ check_lets bs (first_of rest o) n h
