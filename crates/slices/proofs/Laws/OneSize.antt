-- Laws of "one slice, one size": no row of refusal 16 holds exactly where any two records agree, and such a list has a table of sizes, which
-- parts and joins of lists keep. Assumes nothing.
use Prim.Native.Nat.{ℕ, suc, ◌<◌}
use mathlib.Core.Path.{◌≡◌, refl, sym, ap, ◌∙◌}
use mathlib.Core.Logic.{◌≢◌}
use mathlib.Core.Bool.{Bool, true, false, cond, not, ◌&&◌, ◌||◌, false≢true}
use mathlib.Core.List.{List, [], ◌∷◌, ◌++◌, append_assoc, append-nil}
use lib.Dec.{eqb}
use borrow.Author.Tests.{eqb-true, eqb-false, eq-eqb, ne_eqb}
use Rattle.codec.specs.All.{All}
use Rattle.codec.proofs.Laws.All.{all_append, all_left, all_right, all_map}
use Rattle.slices.specs.Record.{record_at, count, records}
use Rattle.slices.specs.Accepts.{Accepts}
use Rattle.slices.specs.OneSize.{Agree, OneSize}
use Rattle.slices.specs.Refusals.{other_size, two_sizes, size_rows}
use Rattle.outcomes.specs.Outcome.{NoneHolds}
use Rattle.slices.proofs.Laws.Record.{records_at}
use Rattle.slices.specs.declared.Record.{Record}

-- ---- two records

module _ (r e : Record) where
  other_none : Agree r e → other_size e r ≡ false
  unfolding other_size
  other_none h = go (eqb r.id 0) (eqb e.id r.id) (eqb e.size r.size) refl refl refl
    where
      go : (a b c : Bool) → eqb r.id 0 ≡ a → eqb e.id r.id ≡ b → eqb e.size r.size ≡ c → (not a && (b && not c)) ≡ false
      go true b c ea eb ec = refl
      go false false c ea eb ec = refl
      go false true true ea eb ec = refl
      go false true false ea eb ec = absurd (eqb-false e.size r.size ec (h (eqb-false r.id 0 ea) (eqb-true e.id r.id eb)))

  none_agree : other_size e r ≡ false → Agree r e
  unfolding other_size
  none_agree h z i = go (eqb e.size r.size) refl
    where
      go : (c : Bool) → eqb e.size r.size ≡ c → e.size ≡ r.size
      go true ec = eqb-true e.size r.size ec
      go false ec = absurd (false≢true (sym h ∙ rw (ne_eqb r.id 0 z, eq-eqb e.id r.id i, ec)))

pub agree_sym : (r e : Record) → Agree r e → Agree e r
agree_sym r e h z i = sym (h (λ y. z (sym i ∙ y)) (sym i))

-- ---- a record and those before it

pub agree_none : (es : List Record) (r : Record) → All (Agree r) es → two_sizes es r ≡ false
unfolding two_sizes
agree_none [] r h = refl
agree_none (e ∷ es) r h = rw (other_none r e h.0) (agree_none es r h.1)

pub none_agrees : (es : List Record) (r : Record) → two_sizes es r ≡ false → All (Agree r) es
unfolding two_sizes
none_agrees [] r h = tt
none_agrees (e ∷ es) r h = go (other_size e r) refl h (none_agrees es r)
  where
    go : (t : Bool) → other_size e r ≡ t → (t || two_sizes es r) ≡ false → (two_sizes es r ≡ false → All (Agree r) es) → Agree r e × All (Agree r) es
    go true k g ih = absurd (false≢true (sym g))
    go false k g ih = (none_agree r e k, ih g)

-- ---- the rows of a list

one_size_more : (es : List Record) (r : Record) → OneSize es → All (Agree r) es → OneSize (es ++ (r ∷ []))
one_size_more es r a b =
    all_append (λ (e : Record). All (Agree e) (es ++ (r ∷ []))) es (r ∷ []) (with_r es a b) (all_append (Agree r) es (r ∷ []) b ((λ z i. refl), tt), tt)
  where
    with_r : (xs : List Record) → All (λ (e : Record). All (Agree e) es) xs → All (Agree r) xs → All (λ (e : Record). All (Agree e) (es ++ (r ∷ []))) xs
    with_r [] h k = tt
    with_r (x ∷ xs) h k = (all_append (Agree x) es (r ∷ []) h.0 (agree_sym r x k.0, tt), with_r xs h.1 k.1)

rows_agree : (es : List Record) (at : ℕ) (rs : List Record) → OneSize es → NoneHolds (size_rows es at rs) → OneSize (es ++ rs)
unfolding size_rows
rows_agree es at [] a h = rw append-nil a
rows_agree es at (r ∷ rs) a h =
    let c = rows_agree (es ++ (r ∷ [])) (suc at) rs (one_size_more es r a (none_agrees es r h.0)) h.1 in
    rw append_assoc at c

agree_rows : (es : List Record) (at : ℕ) (rs : List Record) → OneSize (es ++ rs) → NoneHolds (size_rows es at rs)
unfolding size_rows
agree_rows es at [] a = tt
agree_rows es at (r ∷ rs) a =
    let own = (all_right (λ (e : Record). All (Agree e) (es ++ (r ∷ rs))) es (r ∷ rs) a).0 in
    (agree_none es r (all_left (Agree r) es (r ∷ rs) own), agree_rows (es ++ (r ∷ [])) (suc at) rs (rw append_assoc a))

-- no row of refusal 16 holds exactly where each slice has one size
pub none_one_size : (rs : List Record) → NoneHolds (size_rows [] 0 rs) → OneSize rs
none_one_size rs h = rows_agree [] 0 rs tt h

pub one_size_none : (rs : List Record) → OneSize rs → NoneHolds (size_rows [] 0 rs)
one_size_none rs h = agree_rows [] 0 rs h

-- ---- by places

-- any two records of an accepted list with one id, not 0, have one size
pub accepted_one_size : (bs : List ℕ) → Accepts bs → (i j : ℕ) → i < count bs → j < count bs → (record_at bs i).id ≢ 0 → (record_at bs j).id ≡ (record_at bs i).id
    → (record_at bs j).size ≡ (record_at bs i).size
accepted_one_size bs a i j h k =
    records_at (Agree (record_at bs i)) bs (records_at (λ (r : Record). All (Agree r) (records bs)) bs a.one_size i h) j k

-- ---- a table of sizes

-- the table gives a record's slice its size
abbrev pub Sized : (ℕ → ℕ) → Record → Type 0
Sized sizes r = r.id ≢ 0 → r.size ≡ sizes r.id

-- the size that the first record of each slice gives it
unfoldable pub sizes_of : List Record → ℕ → ℕ
sizes_of [] i = 0
sizes_of (r ∷ rs) i = cond (eqb r.id i) r.size (sizes_of rs i)

first_size : (r : Record) → r.id ≢ 0 → (xs rs : List Record) → All (Agree r) xs → r.size ≡ sizes_of (xs ++ (r ∷ rs)) r.id
unfolding sizes_of
first_size r z [] rs h = rw (eq-eqb r.id r.id refl)
first_size r z (x ∷ xs) rs h = go (eqb x.id r.id) refl (first_size r z xs rs h.1)
  where
    go : (t : Bool) → eqb x.id r.id ≡ t → r.size ≡ sizes_of (xs ++ (r ∷ rs)) r.id → r.size ≡ cond t x.size (sizes_of (xs ++ (r ∷ rs)) r.id)
    go true e k = sym (h.0 z (eqb-true x.id r.id e))
    go false e k = k

sized_rest : (xs rs : List Record) → All (λ (r : Record). All (Agree r) (xs ++ rs)) rs → All (Sized (sizes_of (xs ++ rs))) rs
sized_rest xs [] h = tt
sized_rest xs (r ∷ rs) h =
    let rest = sized_rest (xs ++ (r ∷ [])) rs (rw append_assoc h.1) in
    ((λ z. first_size r z xs rs (all_left (Agree r) xs (r ∷ rs) h.0)), rw append_assoc at rest)

-- a list with one size a slice has such a table, and a list with such a table has one size a slice
pub one_size_table : (rs : List Record) → OneSize rs → All (Sized (sizes_of rs)) rs
one_size_table rs h = sized_rest [] rs h

pub table_one_size : (sizes : ℕ → ℕ) (rs : List Record) → All (Sized sizes) rs → OneSize rs
table_one_size sizes rs h =
    all_map (Sized sizes) (λ (r : Record). All (Agree r) rs)
    (λ r s. all_map (Sized sizes) (Agree r) (λ e t z i. t (λ y. z (sym i ∙ y)) ∙ ap sizes i ∙ sym (s z)) rs h) rs h

-- ---- a record of a new slice

pub one_size_new : (r : Record) (rs : List Record) → All (λ (e : Record). e.id ≢ r.id) rs → OneSize rs → OneSize (r ∷ rs)
one_size_new r rs n a =
    (((λ z i. refl), all_map (λ (e : Record). e.id ≢ r.id) (Agree r) (λ e k z i. absurd (k i)) rs n), others rs n a)
  where
    others : (es : List Record) → All (λ (e : Record). e.id ≢ r.id) es → All (λ (e : Record). All (Agree e) rs) es → All (λ (e : Record). All (Agree e) (r ∷ rs)) es
    others [] k b = tt
    others (e ∷ es) k b = (((λ z i. absurd (k.0 (sym i))), b.0), others es k.1 b.1)
