-- What one step of reading does: a word's next byte, the text's end, and each part of a form behind those before it. Assumes nothing.
use mathlib.Core.Path.{◌≡◌, refl, sym, ap, ◌∙◌}
use mathlib.Core.List.{List, [], ◌∷◌}
use Prim.Native.Nat.{ℕ, suc, ◌≤◌, ◌<◌}
use borrow.Author.Tests.{eq-eqb, ne_eqb}
use lib.ListN.{length, drop, get_or, drop_of_length-le}
use lib.Seq.{drop-cons}
use Rattle.std.specs.Prelude.{Result, Ok, Err, IsErrAnd}
use Rattle.std.proofs.lemmas.Result.{err_from_is_err_and}
use Rattle.codec.specs.Scan.{decimal_at}
use Rattle.codec.specs.declared.scan.Parsed.{Parsed}
use Rattle.codec.proofs.Laws.Scan.{decimal_reads}
use Rattle.texts.specs.Inner.{read_by}
use Rattle.texts.specs.Parts.{Part, word, number, word_at, end_at, Scan, found, stop, with, scan}

-- a word's next byte
module _ (w text : List ℕ) (k i : ℕ) (more : k < length w) where
  pub word_past : length text ≤ i → word_at (drop k w) i (drop i text) ≡ Err i
  unfolding word_at
  word_past h = rw (drop-cons w k 0 more, drop_of_length-le text h)

  pub word_differs : i < length text → (get_or text i 0 ≡ get_or w k 0 → ⊥) → word_at (drop k w) i (drop i text) ≡ Err i
  unfolding word_at
  word_differs h e = rw (drop-cons w k 0 more, drop-cons text i 0 h, ne_eqb _ _ e)

  pub word_same : i < length text → get_or text i 0 ≡ get_or w k 0 → word_at (drop k w) i (drop i text) ≡ word_at (drop (suc k) w) (suc i) (drop (suc i) text)
  unfolding word_at
  word_same h e = rw (drop-cons w k 0 more, drop-cons text i 0 h, eq-eqb _ _ e)

-- the end of the text
pub end_past : (i : ℕ) (text : List ℕ) → length text ≤ i → end_at i (drop i text) ≡ Ok i
unfolding end_at
end_past i text h = rw (drop_of_length-le text h)

pub end_before : (i : ℕ) (text : List ℕ) → i < length text → end_at i (drop i text) ≡ Err i
unfolding end_at
end_before i text h = rw (drop-cons text i 0 h)

-- a scan's numbers with those that were read before it, the latest first
abbrev pub behind : List ℕ → Scan → Scan
behind [] s = s
behind (v ∷ before) s = behind before (with v s)

behind_stop : (before : List ℕ) (i : ℕ) → behind before (stop i) ≡ stop i
behind_stop [] i = refl
behind_stop (v ∷ before) i = behind_stop before i

-- what a reader answers that gave up at j
pub stopped : {A : Type 0} (stands : List ℕ → A) (whole : Scan) (before : List ℕ) (j : ℕ) (x : Result A ℕ) → whole ≡ behind before (stop j) → IsErrAnd x (λ y. y ≡ j) → x ≡ read_by stands whole
unfolding read_by
stopped stands whole before j x e h = let p = err_from_is_err_and x h in rw (p.1, p.2, e, behind_stop before j)

-- A reader that goes by a form: the scan of the whole text is that of what is left of the form, from place i on, behind the numbers read
-- before. Each part leads on to the next, or stops the whole.
pub record Left (text : List ℕ) (whole : Scan) (form : List Part) (before : List ℕ) (i : ℕ) : Type 0 where
  pub is : whole ≡ behind before (scan form text before i)

pub begun : (text : List ℕ) (form : List Part) (i : ℕ) → Left text (scan form text [] i) form [] i
begun text form i = record { is = refl }

module _ {text : List ℕ} {whole : Scan} {form : List Part} {before : List ℕ} {i : ℕ} where
  pub word_on : {w : List ℕ} {r : Result ℕ ℕ} {j : ℕ} → Left text whole (word w ∷ form) before i → r ≡ word_at w i (drop i text) → r ≡ Ok j → Left text whole form before j
  unfolding scan
  word_on l e o = record { is = l.is ∙ rw (sym e ∙ o) }

  pub number_on : {least most : List ℕ → ℕ} {r : Result Parsed ℕ} {p : Parsed} → Left text whole (number least most ∷ form) before i → r ≡ decimal_at (least before) (most before) i (drop i text)
      → r ≡ Ok p → Left text whole form (p.value ∷ before) p.at
  unfolding scan
  number_on l e o = record { is = l.is ∙ rw (sym e ∙ o) }

module _ {text : List ℕ} {whole : Scan} {before : List ℕ} {i : ℕ} {A : Type 0} (stands : List ℕ → A) where
  pub end_on : {r : Result ℕ ℕ} {j : ℕ} → Left text whole [] before i → r ≡ end_at i (drop i text) → r ≡ Ok j → read_by stands (behind before (found [])) ≡ read_by stands whole
  unfolding scan
  end_on l e o = ap (read_by stands) (sym (l.is ∙ rw (sym e ∙ o)))

  pub end_stops : {r : Result ℕ ℕ} {j : ℕ} {x : Result A ℕ} → Left text whole [] before i → r ≡ end_at i (drop i text) → r ≡ Err j → IsErrAnd x (λ y. y ≡ j) → x ≡ read_by stands whole
  unfolding scan
  end_stops l e o h = stopped stands whole before _ _ (l.is ∙ rw (sym e ∙ o)) h

  module _ {form : List Part} where
    pub word_stops : {w : List ℕ} {r : Result ℕ ℕ} {j : ℕ} {x : Result A ℕ} → Left text whole (word w ∷ form) before i → r ≡ word_at w i (drop i text) → r ≡ Err j
        → IsErrAnd x (λ y. y ≡ j) → x ≡ read_by stands whole
    unfolding scan
    word_stops l e o h = stopped stands whole before _ _ (l.is ∙ rw (sym e ∙ o)) h

    pub number_stops : {least most : List ℕ → ℕ} {r : Result Parsed ℕ} {j : ℕ} {x : Result A ℕ} → Left text whole (number least most ∷ form) before i
        → r ≡ decimal_at (least before) (most before) i (drop i text) → r ≡ Err j → IsErrAnd x (λ y. y ≡ j) → x ≡ read_by stands whole
    unfolding scan
    number_stops l e o h = stopped stands whole before _ _ (l.is ∙ rw (sym e ∙ o)) h

-- a number that was read is within its bound
pub value_within : (least most i : ℕ) (text : List ℕ) (r : Result Parsed ℕ) (p : Parsed) → r ≡ decimal_at least most i (drop i text) → r ≡ Ok p → p.value ≤ most
value_within least most i text r p e o = (decimal_reads least most i text p.at p.value (sym e ∙ o)).within
