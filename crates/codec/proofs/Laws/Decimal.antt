-- The laws of `decimal`: its two equations, an induction over a number's digits, and reading it back. Assumes nothing.
use mathlib.Core.Path.{◌≡◌, refl, ap, ◌∙◌}
use mathlib.Core.Bool.{Bool, true, false, cond, ◌&&◌}
use mathlib.Core.List.{List, [], ◌∷◌, ◌++◌}
use Prim.Native.Nat.{ℕ, zero, suc, ◌+◌, ◌-◌, ◌*◌, ◌/◌, ◌%◌, ◌≤◌, ◌<◌, ◌^◌}
use native.Mathlib.Omega.{arith}
use borrow.Author.Tests.{ltb-true, ltb-false, leb-true, lt-ltb, le-ltb, le-leb}
use lib.Dec.{ltb, leb}
use lib.ListN.{length, length-append}
use Rattle.codec.specs.Decimal.{max_digits, decimal, decimal_from, digit_of}

same_depth : (j k n : ℕ) → n ≤ j → n ≤ k → decimal_from j n ≡ decimal_from k n
unfolding decimal_from
same_depth zero zero n h g = refl
same_depth zero (suc k) n h g = simp (lt-ltb n 10 (omega arith))
same_depth (suc j) zero n h g = simp (lt-ltb n 10 (omega arith))
same_depth (suc j) (suc k) n h g = rw (same_depth j k (n / 10) (omega arith) (omega arith))

-- a number below 10 is one digit
pub decimal_digit : (n : ℕ) → n < 10 → decimal n ≡ (48 + n) ∷ []
unfolding decimal
decimal_digit zero h = refl
decimal_digit (suc m) h = simp (lt-ltb (suc m) 10 h)

-- any other is the digits of its tenth, and its last digit
pub decimal_more : (n : ℕ) → 9 < n → decimal n ≡ decimal (n / 10) ++ ((48 + n % 10) ∷ [])
unfolding decimal
decimal_more zero h = absurd (omega arith)
decimal_more (suc m) h = simp (le-ltb (suc m) 10 h, same_depth m (suc m / 10) (suc m / 10) (omega arith) (omega arith))

-- what holds of the one digit of a number below 10, and of more digits if of all but the last, holds of every number's digits
pub decimal_ind : (P : ℕ → List ℕ → Type 0)
    → ((n : ℕ) → n < 10 → P n ((48 + n) ∷ []))
    → ((n : ℕ) (l : List ℕ) → 9 < n → P (n / 10) l → P n (l ++ ((48 + n % 10) ∷ [])))
    → (n : ℕ) → P n (decimal n)
decimal_ind P one more n = go n n (omega arith)
  where
    by_test : (k m : ℕ) → P (m / 10) (decimal (m / 10)) → (t : Bool) → ltb m 10 ≡ t → P m (decimal m)
    by_test k m ih true e = rw (decimal_digit m (ltb-true m 10 e)) (one m (ltb-true m 10 e))
    by_test k m ih false e = rw (decimal_more m (ltb-false m 10 e)) (more m (decimal (m / 10)) (ltb-false m 10 e) ih)

    go : (k m : ℕ) → m ≤ k → P m (decimal m)
    go zero m h = rw (decimal_digit m (omega arith)) (one m (omega arith))
    go (suc k) m h = by_test k m (go k (m / 10) (omega arith)) (ltb m 10) refl

-- the value of digits that follow v
unfoldable pub value : ℕ → List ℕ → ℕ
value v [] = v
value v (b ∷ rest) = value (v * 10 + digit_of b) rest

unfoldable pub Digits : List ℕ → Type 0
Digits [] = Unit {0}
Digits (b ∷ rest) = (digit_of b < 10) × Digits rest

pub digit_of_lem : (d : ℕ) → d < 10 → digit_of (48 + d) ≡ d
unfolding digit_of
digit_of_lem d h = simp (le-leb 48 (48 + d) (omega arith), le-leb (48 + d) 57 (omega arith)) (omega arith)

pub of_digit : (b : ℕ) → digit_of b < 10 → 48 + digit_of b ≡ b
unfolding digit_of
of_digit b h = go (leb 48 b) refl (leb b 57) refl h
  where
    go : (s : Bool) → leb 48 b ≡ s → (t : Bool) → leb b 57 ≡ t → cond (s && t) (b - 48) 10 < 10 → 48 + cond (s && t) (b - 48) 10 ≡ b
    go true e true f h = omega (arith, leb-true 48 b e)
    go true e false f h = absurd (omega arith)
    go false e true f h = absurd (omega arith)
    go false e false f h = absurd (omega arith)

pub value_mono : (v : ℕ) (l : List ℕ) → v ≤ value v l
unfolding value
value_mono v [] = omega arith
value_mono v (b ∷ rest) = omega (arith, value_mono (v * 10 + digit_of b) rest)

value_snoc : (v : ℕ) (l : List ℕ) (c : ℕ) → value v (l ++ (c ∷ [])) ≡ value v l * 10 + digit_of c
unfolding value
value_snoc v [] c = refl
value_snoc v (b ∷ rest) c = value_snoc (v * 10 + digit_of b) rest c

digits_snoc : (l : List ℕ) (c : ℕ) → Digits l → digit_of c < 10 → Digits (l ++ (c ∷ []))
unfolding Digits
digits_snoc [] c d h = (h, tt)
digits_snoc (b ∷ rest) c d h = (d.0, digits_snoc rest c d.1 h)

-- the digits of n: the first, which is 0 only for 0, and the others; their value is n
pub record Spelled (n : ℕ) (l : List ℕ) : Type 0 where
  pub first : ℕ
  pub others : List ℕ
  pub is : l ≡ first ∷ others
  pub digit : digit_of first < 10
  pub digits : Digits others
  pub gives : value (digit_of first) others ≡ n
  pub leads : 1 ≤ n → 1 ≤ digit_of first

pub spelled : (n : ℕ) → Spelled n (decimal n)
unfolding value Digits
spelled = decimal_ind Spelled
    (λ n h. record { first = 48 + n; others = []; is = refl; digit = rw (digit_of_lem n h) h; digits = tt; gives = digit_of_lem n h; leads = λ p. rw (digit_of_lem n h) p })
    (λ n l h s. record {
      first = s.first;
      others = s.others ++ ((48 + n % 10) ∷ []);
      is = ap (λ (k : List ℕ). k ++ ((48 + n % 10) ∷ [])) s.is;
      digit = s.digit;
      digits = digits_snoc s.others (48 + n % 10) s.digits (rw (digit_of_lem (n % 10) (omega arith)) (omega arith));
      gives = value_snoc (digit_of s.first) s.others (48 + n % 10) ∙ (omega (arith, s.gives, digit_of_lem (n % 10) (omega arith)));
      leads = λ p. s.leads (omega arith);
    })

-- the power of ten
unfoldable pub tenfold : ℕ → ℕ
tenfold zero = 1
tenfold (suc k) = tenfold k * 10

pub length-within : (n : ℕ) (k : ℕ) → n < tenfold (suc k) → length (decimal n) ≤ suc k
unfolding tenfold
length-within = decimal_ind (λ n l. (k : ℕ) → n < tenfold (suc k) → length l ≤ suc k) (λ n h k g. omega arith) more
  where
    more : (n : ℕ) (l : List ℕ) → 9 < n → ((k : ℕ) → n / 10 < tenfold (suc k) → length l ≤ suc k) → (k : ℕ) → n < tenfold (suc k) → length (l ++ ((48 + n % 10) ∷ [])) ≤ suc k
    more n l h ih zero g = absurd (omega arith)
    more n l h ih (suc k) g = simp length-append (omega (arith, ih k (omega arith)))

pub decimal-length : (n : ℕ) → n < 2 ^ 64 → length (decimal n) ≤ max_digits
unfolding tenfold
decimal-length n h = length-within n 19 (omega arith)

pub decimal_some : (n : ℕ) → 1 ≤ length (decimal n)
decimal_some n = rw (spelled n).is (omega arith)

pub decimal_two : (n : ℕ) → 9 < n → 2 ≤ length (decimal n)
decimal_two n h = rw (decimal_more n h) (simp length-append (omega (arith, decimal_some (n / 10))))
