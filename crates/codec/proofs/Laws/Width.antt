-- How many digits a number has: by comparing it with powers of ten, and of its whole thousandth. Assumes nothing.
use mathlib.Core.Path.{◌≡◌, sym, ap, ◌∙◌}
use mathlib.Core.List.{List, [], ◌∷◌, ◌++◌}
use Prim.Native.Nat.{ℕ, zero, suc, ◌+◌, ◌-◌, ◌/◌, ◌%◌, ◌≤◌, ◌<◌, max}
use native.Mathlib.Omega.{arith}
use native.Mathlib.Decide.{dec_lt}
use lib.ListN.{length, length-append}
use Rattle.codec.specs.Decimal.{decimal}
use Rattle.codec.proofs.Laws.Decimal.{tenfold, length-within, decimal_ind, decimal_digit, decimal_more, decimal_some}

tenfold_some : (k : ℕ) → 1 ≤ tenfold k
unfolding tenfold
tenfold_some zero = omega arith
tenfold_some (suc k) = omega (arith, tenfold_some k)

pub length_beyond : (n : ℕ) (k : ℕ) → tenfold k ≤ n → k < length (decimal n)
unfolding tenfold
length_beyond = decimal_ind (λ n l. (k : ℕ) → tenfold k ≤ n → k < length l) one more
  where
    one : (n : ℕ) → n < 10 → (k : ℕ) → tenfold k ≤ n → k < 1
    one n h zero g = omega arith
    one n h (suc k) g = absurd (omega (arith, tenfold_some k))

    more : (n : ℕ) (l : List ℕ) → 9 < n → ((k : ℕ) → tenfold k ≤ n / 10 → k < length l) → (k : ℕ) → tenfold k ≤ n → k < length (l ++ ((48 + n % 10) ∷ []))
    more n l h ih zero g = simp length-append (omega arith)
    more n l h ih (suc k) g = simp length-append (omega (arith, ih k (omega arith)))

-- a number from a power of ten on, and below the next
pub decimal_width : (k n : ℕ) → tenfold k ≤ n → n < tenfold (suc k) → suc k ≡ length (decimal n)
decimal_width k n low high = omega (arith, length_beyond n k low, length-within n k high)

-- of the tenth, all digits but the last, and one where there is no other
tenth_width : (n : ℕ) → length (decimal (n / 10)) ≡ max 1 (length (decimal n) - 1)
tenth_width n = go (dec_lt n 10)
  where
    go : Dec (n < 10) → length (decimal (n / 10)) ≡ max 1 (length (decimal n) - 1)
    go (yes h) =
        let e = ap length (decimal_digit n h) in
        let f = ap length (decimal_digit (n / 10) (omega arith)) in
        omega (arith, e, f)
    go (no h) =
        let e = simp length-append at (ap length (decimal_more n (omega arith))) in
        omega (arith, e, decimal_some (n / 10))

shorter : (d k : ℕ) → max 1 (max 1 (d - k) - 1) ≡ max 1 (d - (k + 1))
shorter d k = omega arith

-- of the whole thousandth, all digits but the last three
pub thousandth_width : (n : ℕ) → length (decimal (n / 1000)) ≡ max 1 (length (decimal n) - 3)
thousandth_width n =
    let e : n / 10 / 10 / 10 ≡ n / 1000 = omega arith in
    let d = length (decimal n) in
    let two : length (decimal (n / 10 / 10)) ≡ max 1 (d - 2) = tenth_width (n / 10) ∙ ap (λ (w : ℕ). max 1 (w - 1)) (tenth_width n) ∙ shorter d 1 in
    ap (λ (m : ℕ). length (decimal m)) (sym e) ∙ tenth_width (n / 10 / 10) ∙ ap (λ (w : ℕ). max 1 (w - 1)) two ∙ shorter d 2
