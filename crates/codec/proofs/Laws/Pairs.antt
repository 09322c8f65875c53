-- Laws of two digits at a time: the table's rule from one test of its entries, and how a number's digits end in pairs. Assumes nothing.
use mathlib.Core.Path.{◌≡◌, refl, ap, ◌∙◌}
use mathlib.Core.Bool.{Bool, cond}
use mathlib.Core.List.{List, [], ◌∷◌, ◌++◌, append_assoc}
use Prim.Native.Nat.{ℕ, ◌+◌, ◌*◌, ◌/◌, ◌%◌, ◌<◌, ◌≤◌}
use native.Mathlib.Omega.{arith}
use lib.Dec.{T, eqb, eqb→eq}
use lib.ListN.{length, get_or, set, length-append}
use Rattle.codec.specs.Decimal.{decimal}
use Rattle.codec.specs.Pairs.{pair, four, PairTable}
use Rattle.codec.specs.Splice.{splice}
use Rattle.codec.proofs.Laws.Decimal.{decimal_digit, decimal_more}
use Rattle.codec.proofs.Laws.Splice.{splice_one, splice_then, length-splice, splice_before}
use Rattle.codec.proofs.Laws.Table.{every, at_each}

-- ---- the table

-- the digit at place k of the table: of the number k / 2 the tens, then the ones
abbrev pub digit_at : ℕ → ℕ
digit_at k = cond (eqb (k % 2) 0) (48 + k / 2 / 10) (48 + k / 2 % 10)

abbrev pub right : ℕ → ℕ → Bool
right k x = eqb x (digit_at k)

pub pair_table : (table : List ℕ) → length table ≡ 200 → T (every right 0 table) → PairTable table
pair_table table e t =
    record {
      whole = e;
      tens = λ n h.
          let z : 2 * n % 2 ≡ 0 = omega arith in
          let d : 2 * n / 2 ≡ n = omega arith in
          eqb→eq (get_or table (2 * n) 0) (digit_at (2 * n)) (at_each right table t (2 * n) (omega arith)) ∙ rw (z, d);
      ones = λ n h.
          let z : (2 * n + 1) % 2 ≡ 1 = omega arith in
          let d : (2 * n + 1) / 2 ≡ n = omega arith in
          eqb→eq (get_or table (2 * n + 1) 0) (digit_at (2 * n + 1)) (at_each right table t (2 * n + 1) (omega arith)) ∙ rw (z, d);
    }

-- ---- how digits end

-- a number of two digits is a pair
pub decimal_pair : (n : ℕ) → 9 < n → n < 100 → decimal n ≡ pair n
decimal_pair n h g = decimal_more n h ∙ ap (λ (l : List ℕ). l ++ ((48 + n % 10) ∷ [])) (decimal_digit (n / 10) (omega arith))

-- one of three and more ends in a pair
pub decimal_pairs : (n : ℕ) → 99 < n → decimal n ≡ decimal (n / 100) ++ pair (n % 100)
decimal_pairs n h =
    let a : n / 10 / 10 ≡ n / 100 = omega arith in
    let b : n / 10 % 10 ≡ n % 100 / 10 = omega arith in
    let c : n % 10 ≡ n % 100 % 10 = omega arith in
    decimal_more n (omega arith)
    ∙ ap (λ (l : List ℕ). l ++ ((48 + n % 10) ∷ [])) (decimal_more (n / 10) (omega arith))
    ∙ append_assoc (decimal (n / 10 / 10)) ((48 + n / 10 % 10) ∷ []) ((48 + n % 10) ∷ [])
    ∙ (λ i. decimal (a i) ++ ((48 + b i) ∷ (48 + c i) ∷ []))

-- one of five and more ends in four digits
pub decimal_fours : (n : ℕ) → 9999 < n → decimal n ≡ decimal (n / 10000) ++ four (n % 10000)
decimal_fours n h =
    let a : n / 100 / 100 ≡ n / 10000 = omega arith in
    let b : n / 100 % 100 ≡ n % 10000 / 100 = omega arith in
    let c : n % 100 ≡ n % 10000 % 100 = omega arith in
    decimal_pairs n (omega arith)
    ∙ ap (λ (l : List ℕ). l ++ pair (n % 100)) (decimal_pairs (n / 100) (omega arith))
    ∙ append_assoc (decimal (n / 100 / 100)) (pair (n / 100 % 100)) (pair (n % 100))
    ∙ (λ i. decimal (a i) ++ (pair (b i) ++ pair (c i)))

pub pairs_width : (n : ℕ) → 99 < n → length (decimal n) ≡ length (decimal (n / 100)) + 2
pairs_width n h = simp length-append at (ap length (decimal_pairs n h))

pub fours_width : (n : ℕ) → 9999 < n → length (decimal n) ≡ length (decimal (n / 10000)) + 4
fours_width n h = simp length-append at (ap length (decimal_fours n h))

-- ---- two bytes that are stored

pub splice_two : (out : List ℕ) (at a b : ℕ) → at + 2 ≤ length out → set (set out at a) (at + 1) b ≡ splice out at (a ∷ b ∷ [])
splice_two out at a b h =
    let s = splice_one out at a (omega arith) in
    ap (λ (o : List ℕ). set o (at + 1) b) s
    ∙ splice_one (splice out at (a ∷ [])) (at + 1) b (omega (arith, length-splice out at (a ∷ []) (omega arith)))
    ∙ splice_then out at (a ∷ []) 1 (b ∷ []) refl (omega arith)

-- ---- from the last digits to the first

-- digits that are put behind, and then those before them
pub put_before : (out : List ℕ) {o₁ o₂ : List ℕ} (at place : ℕ) (a b : List ℕ) → place ≡ at + length a → place + length b ≤ length out → o₁ ≡ splice out place b → o₂ ≡ splice o₁ at a
    → o₂ ≡ splice out at (a ++ b)
put_before out at place a b e h e₁ e₂ =
    let s = splice_before out at a b (length a) refl (omega arith) in
    e₂ ∙ ap (λ (o : List ℕ). splice o at a) (e₁ ∙ ap (λ (k : ℕ). splice out k b) e) ∙ s
