-- A form of text: a list of parts, each a fixed word or a decimal number within bounds. What the text of given numbers is, which
-- numbers the form allows, and what reading a text finds. proofs/Laws/Parts.antt shows that reading is the inverse of writing.
-- Assumes nothing.
use Rattle.std.specs.Prelude.{ℕ, suc, Bool, true, false, cond, ◌&&◌, List, [], ◌∷◌, ◌++◌, leb, eqb, drop, get_or, Result, Ok, Err}
use Rattle.codec.specs.Decimal.{decimal}
use Rattle.codec.specs.Scan.{decimal_at}

-- `number least most` is a decimal number from least to most; both may depend on the numbers before it in the text, the latest first
pub data Part : Type 0 where
  word : List ℕ → Part
  number : (List ℕ → ℕ) → (List ℕ → ℕ) → Part

-- a number within fixed bounds
abbrev pub within : ℕ → ℕ → Part
within least most = number (λ before. least) (λ before. most)

-- the number before
abbrev pub latest : List ℕ → ℕ
latest before = get_or before 0 0

-- ---- writing

-- the text of the numbers, in the order of the form's number parts
unfoldable pub write : List Part → List ℕ → List ℕ
write [] ns = []
write (word w ∷ form) ns = w ++ write form ns
write (number least most ∷ form) [] = []
write (number least most ∷ form) (n ∷ ns) = decimal n ++ write form ns

-- the form has as many number parts as there are numbers, and each number is within its part's bounds
unfoldable pub allows : List Part → List ℕ → List ℕ → Bool
allows [] before [] = true
allows [] before (n ∷ ns) = false
allows (word w ∷ form) before ns = allows form before ns
allows (number least most ∷ form) before [] = false
allows (number least most ∷ form) before (n ∷ ns) = (leb (least before) n && leb n (most before)) && allows form (n ∷ before) ns

-- ---- reading

-- Each step's list is what the text has from place i on; `Ok` has the place after the part, `Err` the place at which the step gives up.

-- a word at place i: `Err` at the first byte that differs, or at the text's end
unfoldable pub word_at : List ℕ → ℕ → List ℕ → Result ℕ ℕ
word_at [] i text = Ok i
word_at (a ∷ w) i [] = Err i
word_at (a ∷ w) i (b ∷ rest) = cond (eqb b a) (word_at w (suc i) rest) (Err i)

-- the text's end at place i: `Err` there where a byte is left
unfoldable pub end_at : ℕ → List ℕ → Result ℕ ℕ
end_at i [] = Ok i
end_at i (b ∷ rest) = Err i

-- the numbers of a whole text, or the place at which its first step that gives up does so
pub data Scan : Type 0 where
  found : List ℕ → Scan
  stop : ℕ → Scan

-- what a step leads to, if it was taken
abbrev pub onward : {A : Type 0} → Result A ℕ → (A → Scan) → Scan
onward (Ok a) f = f a
onward (Err i) f = stop i

-- a scan's numbers with one more in front
abbrev pub with : ℕ → Scan → Scan
with v (found ns) = found (v ∷ ns)
with v (stop i) = stop i

-- the text from place i on, read by the form
unfoldable pub scan : List Part → List ℕ → List ℕ → ℕ → Scan
unfolding word_at end_at
scan [] text before i = onward (end_at i (drop i text)) (λ j. found [])
scan (word w ∷ form) text before i = onward (word_at w i (drop i text)) (λ j. scan form text before j)
scan (number least most ∷ form) text before i =
    onward (decimal_at (least before) (most before) i (drop i text)) (λ p. with p.value (scan form text (p.value ∷ before) p.at))
