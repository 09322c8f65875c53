-- The check of refusal 16, record by record: by what is said of the records from i on, and by the first i records that agree. Assumes nothing.
use Prim.Native.Nat.{ℕ, suc, ◌+◌, ◌-◌, ◌<◌, ◌≤◌}
use native.Mathlib.Omega.{arith}
use native.Mathlib.Nat.{le_refl}
use borrow.Author.Tests.{eq-eqb, ne_eqb}
use native.Mathlib.Numerals.{add-one}
use native.Mathlib.Decide.{ℕ_discrete, dec_lt}
use mathlib.Core.Path.{◌≡◌, refl, sym, ◌∙◌}
use mathlib.Core.Logic.{◌≢◌, ◌⊎◌, ⊎_elim}
use mathlib.Core.Bool.{Bool, true, false}
use mathlib.Core.List.{List, []}
use Rattle.codec.specs.All.{All}
use Rattle.codec.specs.Groups.{groups_from}
use Rattle.codec.proofs.Laws.Groups.{groups_all, groups_at}
use Rattle.outcomes.specs.Numbers as number
use Rattle.outcomes.specs.Outcome.{Outcome, refused, done, refusal, first_of}
use Rattle.outcomes.proofs.Laws.Outcome.{row_holds, row_passes, none_passes}
use Rattle.slices.specs.Limits.{record_size}
use Rattle.slices.specs.Record.{decode, record_at, records_from, count, records}
use Rattle.slices.specs.OneSize.{Agree, OneSize}
use Rattle.slices.specs.Refusals.{two_sizes, size_rows}
use Rattle.slices.specs.Inner.{size_outcome, FirstOther, Agreed, Risen}
use Rattle.slices.proofs.Laws.Record.{records_more, records_all}
use Rattle.slices.proofs.Laws.OneSize.{agree_none, none_agrees, agree_sym, one_size_none}
use Rattle.slices.specs.declared.Record.{Record}

-- what holds of each number below i, and of i, holds of each below i + 1
pub one_more : (P : ℕ → Type 0) (i : ℕ) → ((k : ℕ) → k < i → P k) → P i → (k : ℕ) → k < i + 1 → P k
one_more P i h p k l = go (ℕ_discrete k i)
  where
    go : Dec (k ≡ i) → P k
    go (yes e) = rw e p
    go (no e) = h k (omega arith)

-- ---- what is said of the records from i on

-- the check of the records from i on against all before them
unfoldable pub sizes_from : List ℕ → ℕ → Outcome ℕ
sizes_from bs i = first_of (size_rows (records_from bs 0 i) i (records_from bs i (count bs - i))) (done (count bs))

module _ (bs : List ℕ) where
  pub sizes_start : size_outcome bs ≡ sizes_from bs 0
  unfolding size_outcome sizes_from records records_from groups_from
  sizes_start =
      let k : count bs - 0 ≡ count bs = omega arith in
      rw k

  module _ (i : ℕ) where
    pub sizes_next : i < count bs → two_sizes (records_from bs 0 i) (record_at bs i) ≡ false → sizes_from bs i ≡ sizes_from bs (i + 1)
    unfolding sizes_from size_rows records_from groups_from record_at
    sizes_next h e =
        let k : count bs - i ≡ suc (count bs - suc i) = omega arith in
        rw (add-one, records_more bs i, k) (row_passes _ _ _ _ _ e)

    pub sizes_here : i < count bs → two_sizes (records_from bs 0 i) (record_at bs i) ≡ true → sizes_from bs i ≡ refused (refusal number.two_sizes i)
    unfolding sizes_from size_rows records_from groups_from record_at
    sizes_here h e =
        let k : count bs - i ≡ suc (count bs - suc i) = omega arith in
        rw k (row_holds _ _ _ _ _ e)

    pub sizes_end : count bs ≤ i → sizes_from bs i ≡ done (count bs)
    unfolding sizes_from size_rows records_from groups_from first_of
    sizes_end h =
        let k : count bs - i ≡ 0 = omega arith in
        rw k

  -- the search stops at a record that disagrees, or at the end
  pub other_here : (i : ℕ) → i < count bs → size_outcome bs ≡ sizes_from bs i → two_sizes (records_from bs 0 i) (record_at bs i) ≡ true → FirstOther bs i
  other_here i h e t = record { within = omega arith; says = rw (ne_eqb i (count bs) (λ z. omega arith)) (e ∙ sizes_here i h t) }

  pub no_other : size_outcome bs ≡ done (count bs) → FirstOther bs (count bs)
  no_other e = record { within = le_refl (count bs); says = rw (eq-eqb (count bs) (count bs) refl) e }

  -- ---- a record and those before it, by their places

  pub places_agree : (i : ℕ) → ((j : ℕ) → j < i → Agree (record_at bs i) (record_at bs j)) → two_sizes (records_from bs 0 i) (record_at bs i) ≡ false
  unfolding records_from record_at
  places_agree i h = agree_none (records_from bs 0 i) (record_at bs i) (groups_all decode record_size (Agree (record_at bs i)) bs 0 i (λ j a b. h j (omega arith)))

  -- one that disagrees is told
  pub place_other : (i j : ℕ) → j < i → ¬ Agree (record_at bs i) (record_at bs j) → two_sizes (records_from bs 0 i) (record_at bs i) ≡ true
  unfolding records_from record_at
  place_other i j l n = go (two_sizes (records_from bs 0 i) (record_at bs i)) refl
    where
      agrees : All (Agree (record_at bs i)) (records_from bs 0 i) → Agree (record_at bs i) (record_at bs j)
      agrees h = groups_at decode record_size (Agree (record_at bs i)) bs 0 i h j (omega arith) (omega arith)

      go : (t : Bool) → two_sizes (records_from bs 0 i) (record_at bs i) ≡ t → two_sizes (records_from bs 0 i) (record_at bs i) ≡ true
      go true h = h
      go false h = absurd (n (agrees (none_agrees (records_from bs 0 i) (record_at bs i) h)))

  -- ---- records that agree

  pub agreed_none : Agreed bs 0
  agreed_none j h = absurd (omega arith)

  pub agreed_more : (i : ℕ) → Agreed bs i → ((k : ℕ) → k < i → Agree (record_at bs i) (record_at bs k)) → Agreed bs (i + 1)
  agreed_more i a h = one_more (λ (j : ℕ). (k : ℕ) → k < j → Agree (record_at bs j) (record_at bs k)) i a h

  pub agreed_all : (i : ℕ) → count bs ≤ i → Agreed bs i → OneSize (records bs)
  agreed_all i h a =
      records_all (λ (r : Record). All (Agree r) (records bs)) bs (λ j l. records_all (Agree (record_at bs j)) bs (λ k m. go j k l m (dec_lt k j) (dec_lt j k)))
    where
      go : (j k : ℕ) → j < count bs → k < count bs → Dec (k < j) → Dec (j < k) → Agree (record_at bs j) (record_at bs k)
      go j k l m (yes x) y = a j (omega arith) k x
      go j k l m (no x) (yes y) = agree_sym (record_at bs k) (record_at bs j) (a k (omega arith) j y)
      go j k l m (no x) (no y) = let e : j ≡ k = omega arith in λ z i. rw e

  pub agreed_accepted : (i : ℕ) → count bs ≤ i → Agreed bs i → size_outcome bs ≡ done (count bs)
  unfolding size_outcome
  agreed_accepted i h a = none_passes (size_rows [] 0 (records bs)) (done (count bs)) (one_size_none (records bs) (agreed_all i h a))

  -- ---- a record's id: 0, or the id of an earlier one, or a new one

  module _ (i : ℕ) (a : Agreed bs i) where
    pub agreed_zeros : (record_at bs i).id ≡ 0 → Agreed bs (i + 1)
    agreed_zeros e = agreed_more i a (λ k m z q. absurd (z e))

    pub agreed_new : ((k : ℕ) → k < i → (record_at bs k).id ≢ (record_at bs i).id) → Agreed bs (i + 1)
    agreed_new n = agreed_more i a (λ k m z q. absurd (n k m q))

    -- it has the size of the first of its slice
    pub agreed_first : (first : ℕ) → first < i → (record_at bs first).id ≡ (record_at bs i).id → ((k : ℕ) → k < first → (record_at bs k).id ≢ (record_at bs i).id)
        → (record_at bs first).size ≡ (record_at bs i).size → Agreed bs (i + 1)
    agreed_first first l e n s = agreed_more i a (λ k m z q. go k m z q (dec_lt k first) (ℕ_discrete k first))
      where
        go : (k : ℕ) → k < i → (record_at bs i).id ≢ 0 → (record_at bs k).id ≡ (record_at bs i).id → Dec (k < first) → Dec (k ≡ first) → (record_at bs k).size ≡ (record_at bs i).size
        go k m z q (yes x) y = absurd (n k x q)
        go k m z q (no x) (yes y) = rw y s
        go k m z q (no x) (no y) = sym (a k m first (omega arith) (λ w. z (sym q ∙ w)) (e ∙ sym q)) ∙ s

  -- ---- ids that rise

  pub risen_none : Risen bs 0 0
  risen_none = record { most = λ j l. absurd (omega arith); agreed = agreed_none }

  pub risen_more : (i last next : ℕ) → Risen bs i last → last ≤ next → (record_at bs i).id ≤ next → ((record_at bs i).id ≡ 0) ⊎ (last < (record_at bs i).id) → Risen bs (i + 1) next
  risen_more i last next a h k c =
      record {
        most = one_more (λ (j : ℕ). (record_at bs j).id ≤ next) i (λ j l. omega (arith, a.most j l)) k;
        agreed = ⊎_elim (agreed_zeros i a.agreed) (λ g. agreed_new i a.agreed (λ j l e. let m = a.most j l in omega arith)) c;
      }
