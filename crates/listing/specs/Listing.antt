-- What the program prints for a list: its view, or its refusal (paper 01, "Takes we tried on paper"). Assumes nothing.
use Rattle.std.specs.Prelude.{ℕ, Bool, cond}
use mathlib.Core.List.{List, [], ◌∷◌, ◌++◌, flat_map}
use Rattle.codec.specs.Decimal.{decimal}
use Rattle.slices.specs.Limits.{chunk}
use Rattle.slices.specs.Record.{records}
use Rattle.outcomes.specs.Numbers.{too_many}
use Rattle.outcomes.specs.Outcome.{Outcome, refused, done, refusal}
use Rattle.views.specs.Calls.{view_outcome}
use Rattle.slices.specs.declared.Record.{Record}
use Rattle.outcomes.specs.Outcome.{Refusal}

-- the most bytes of a file, and of the view's buffer
abbrev pub file_limit : ℕ
file_limit = 65536

-- ---- words

abbrev pub space : ℕ
space = 32

abbrev pub newline : ℕ
newline = 10

-- `pos id size off len`, and a newline
abbrev pub header : List ℕ
header = 112 ∷ 111 ∷ 115 ∷ 32 ∷ 105 ∷ 100 ∷ 32 ∷ 115 ∷ 105 ∷ 122 ∷ 101 ∷ 32 ∷ 111 ∷ 102 ∷ 102 ∷ 32 ∷ 108 ∷ 101 ∷ 110 ∷ 10 ∷ []

-- `refused `
abbrev pub refused_word : List ℕ
refused_word = 114 ∷ 101 ∷ 102 ∷ 117 ∷ 115 ∷ 101 ∷ 100 ∷ 32 ∷ []

-- ` at `
abbrev pub at_word : List ℕ
at_word = 32 ∷ 97 ∷ 116 ∷ 32 ∷ []

-- ---- lines

-- a number in decimal, and a byte after it
unfoldable pub field : ℕ → ℕ → List ℕ
field n b = decimal n ++ (b ∷ [])

-- a record's line
unfoldable pub line : Record → List ℕ
line r = field r.pos space ++ (field r.id space ++ (field r.size space ++ (field r.off space ++ field r.len newline)))

-- the lines of records
unfoldable pub lines : List Record → List ℕ
lines rs = flat_map line rs

-- a refusal's line, as `refused 6 at 0`
unfoldable pub refused_line : Refusal → List ℕ
refused_line r = refused_word ++ (decimal r.number ++ (at_word ++ field r.place newline))

-- ---- the text

-- the header and the view's lines, or the refusal's line
unfoldable pub text_of : Outcome (List ℕ) → List ℕ
text_of (refused r) = refused_line r
text_of (done view) = header ++ lines (records view)

-- the view of the whole chunk; a file above the limit is refusal 2 before any other check
unfoldable pub listing : Bool → List ℕ → List ℕ
listing longer bs = text_of (cond longer (refused (refusal too_many 0)) (view_outcome bs chunk file_limit))
