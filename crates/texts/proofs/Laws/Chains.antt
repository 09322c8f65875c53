-- The steps of a reader that goes by a form, one for each part: what they find is what the scan of the form finds. Assumes nothing.
use Prim.Native.Nat.{ℕ}
use mathlib.Core.Path.{◌≡◌, refl, sym, ap, ◌∙◌}
use mathlib.Core.List.{List, [], ◌∷◌}
use lib.ListN.{drop}
use Rattle.std.specs.Prelude.{Result, Ok, Err}
use Rattle.outcomes.specs.Numbers.{not_of_form}
use Rattle.outcomes.specs.Outcome.{Refusal, refusal}
use Rattle.outcomes.specs.Answers.{answer_of}
use Rattle.codec.specs.Scan.{decimal_at}
use Rattle.codec.specs.declared.scan.Parsed.{Parsed}
use Rattle.texts.specs.Parts.{Part, word, number, word_at, end_at, Scan, found, stop, with, scan}
use Rattle.texts.specs.Calls.{reading}

-- from place i, with the numbers read before it, to `last`, what is answered at the text's end, or by the first step that gives up; ns are the numbers read on the way
pub data Chain (text : List ℕ) : List Part → List ℕ → ℕ → List ℕ → Result ℕ ℕ → Type 0 where
  by_end : {before : List ℕ} {i : ℕ} {last : Result ℕ ℕ} → last ≡ end_at i (drop i text) → Chain text [] before i [] last
  by_word : {form : List Part} {before ns w : List ℕ} {i j : ℕ} {last : Result ℕ ℕ} → word_at w i (drop i text) ≡ Ok j → Chain text form before j ns last
      → Chain text (word w ∷ form) before i ns last
  no_word : {form : List Part} {before w : List ℕ} {i j : ℕ} → word_at w i (drop i text) ≡ Err j → Chain text (word w ∷ form) before i [] (Err j)
  by_number : {form : List Part} {before ns : List ℕ} {least most : List ℕ → ℕ} {i : ℕ} {p : Parsed} {last : Result ℕ ℕ} → decimal_at (least before) (most before) i (drop i text) ≡ Ok p
      → Chain text form (p.value ∷ before) p.at ns last → Chain text (number least most ∷ form) before i (p.value ∷ ns) last
  no_number : {form : List Part} {before : List ℕ} {least most : List ℕ → ℕ} {i j : ℕ} → decimal_at (least before) (most before) i (drop i text) ≡ Err j
      → Chain text (number least most ∷ form) before i [] (Err j)

-- what the scan finds where the last step answers this
abbrev ending : List ℕ → Result ℕ ℕ → Scan
ending ns (Ok i) = found ns
ending ns (Err i) = stop i

with_ending : (v : ℕ) (ns : List ℕ) (r : Result ℕ ℕ) → with v (ending ns r) ≡ ending (v ∷ ns) r
with_ending v ns (Ok i) = refl
with_ending v ns (Err i) = refl

at_end : (text before : List ℕ) (i : ℕ) (r : Result ℕ ℕ) → r ≡ end_at i (drop i text) → scan [] text before i ≡ ending [] r
unfolding scan
at_end text before i (Ok j) e = rw (← e)
at_end text before i (Err j) e = rw (← e)

-- its last step decides
chain_scan : {text before ns : List ℕ} {form : List Part} {i : ℕ} {last : Result ℕ ℕ} → Chain text form before i ns last → scan form text before i ≡ ending ns last
unfolding scan
chain_scan {text} {before} (by_end {i = i} {last} e) = at_end text before i last e
chain_scan (by_word e c) = rw e (chain_scan c)
chain_scan (no_word e) = rw e
chain_scan (by_number {ns = ns} {p = p} {last} e c) = rw e (ap (with p.value) (chain_scan c) ∙ with_ending p.value ns last)
chain_scan (no_number e) = rw e

-- what the reader then answers
module _ {A X : Type 0} (refuse : Refusal → X) (say : A → X) (stands : List ℕ → A) {text ns : List ℕ} {form : List Part} {at : ℕ} {last : Result ℕ ℕ} (chain : Chain text form [] at ns last) where
  -- the text ends where the form does
  pub answer_found : {i : ℕ} → last ≡ Ok i → say (stands ns) ≡ answer_of refuse say (reading stands (scan form text [] at))
  unfolding answer_of reading
  answer_found e = rw (chain_scan chain, e)

  -- the text is not of the form
  pub answer_stopped : {i : ℕ} {r : Refusal} → last ≡ Err i → r ≡ refusal not_of_form 0 → refuse r ≡ answer_of refuse say (reading stands (scan form text [] at))
  unfolding answer_of reading
  answer_stopped e er = rw (chain_scan chain, e, er)
