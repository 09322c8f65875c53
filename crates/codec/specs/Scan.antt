-- Reading a decimal number in a text: what a number that was read is, and the scan that finds it. proofs/Laws/Scan.antt shows that the scan
-- finds nothing else (`decimal_reads`), and finds each such number (`decimal_writes`). Assumes nothing.
use Rattle.std.specs.Prelude.{ℕ, suc, ◌+◌, ◌*◌, ◌≤◌, min, ◌≡◌, cond, ◌&&◌, List, [], ◌∷◌, ◌++◌, ltb, leb, drop, Result, Ok, Err}
use Rattle.codec.specs.Decimal.{decimal, digit_of}
use Rattle.codec.specs.declared.scan.Parsed.{Parsed}

-- what the first byte of a text stands for as a digit, and 10 where there is none
unfoldable pub digit_at : List ℕ → ℕ
digit_at [] = 10
digit_at (b ∷ rest) = digit_of b

-- The number n stands in a text from place i up to, but without, place j: there is exactly what `decimal` writes of n, n is within the
-- bounds, and no digit follows.
pub record DecimalRead (least most i : ℕ) (text : List ℕ) (j n : ℕ) : Type 0 where
  pub same : drop i text ≡ decimal n ++ drop j text
  pub above : least ≤ n
  pub within : n ≤ most
  pub after : 10 ≤ digit_at (drop j text)

-- ---- the scan

-- what a reading finds: the number v, and the place i after it
abbrev pub parsed : ℕ → ℕ → Result Parsed ℕ
parsed i v = Ok (record { at = i; value = v })

-- The list is what the text has from place i on. `parsed` has the place after the number, and the number. `Err` has the place at which the
-- scan gives up: that of a digit that would bring the number above `most`, of a digit behind a zero in front, or of a zero in front where
-- `least` is above 0; else that of the first byte that is no digit, or the text's end, where no digit stands before it or the number is
-- below `least`. It is not the end of the longest beginning that an allowed number has: from 1,234,000 to 1,234,999, the text `1235` stops
-- at its end, although no allowed number begins so.

-- a number of which v is read already: a zero takes no further digit
unfoldable pub more_digits : ℕ → ℕ → ℕ → ℕ → List ℕ → Result Parsed ℕ
more_digits least most v i [] = cond (leb least v) (parsed i v) (Err i)
more_digits least most v i (b ∷ rest) =
    let further = more_digits least most (v * 10 + digit_of b) (suc i) rest in
    cond (ltb (digit_of b) 10) (cond (leb 1 v && leb (v * 10 + digit_of b) most) further (Err i)) (cond (leb least v) (parsed i v) (Err i))

-- a decimal number from least to most, without leading zeros
unfoldable pub decimal_at : ℕ → ℕ → ℕ → List ℕ → Result Parsed ℕ
unfolding more_digits
decimal_at least most i [] = Err i
decimal_at least most i (b ∷ rest) =
    let further = more_digits least most (digit_of b) (suc i) rest in
    cond (ltb (digit_of b) 10 && (leb (min 1 least) (digit_of b) && leb (digit_of b) most)) further (Err i)
