-- The first and the last position of the chunk that a list covers. No limit on the length of a list. Assumes nothing.
use Rattle.std.specs.Prelude.{ℕ, zero, suc, ◌<◌, ◌≡◌, Bool, true, false, cond, not, ◌||◌, List}
use Rattle.slices.specs.Limits.{chunk}
use Rattle.slices.specs.Cover.{cover, is_nothing}
use Rattle.slices.specs.declared.Record.{Record}

-- ---- of the positions below n, by any test

-- m is the first that passes
pub record IsFirst (t : ℕ → Bool) (n m : ℕ) : Type 0 where
  pub inside : m < n
  pub here : t m ≡ true
  pub before : (p : ℕ) → p < m → t p ≡ false

-- m is the last that passes
pub record IsLast (t : ℕ → Bool) (n m : ℕ) : Type 0 where
  pub inside : m < n
  pub here : t m ≡ true
  pub beyond : (p : ℕ) → m < p → p < n → t p ≡ false

-- whether one passes
unfoldable pub any_below : (ℕ → Bool) → ℕ → Bool
any_below t zero = false
any_below t (suc n) = t n || any_below t n

-- the first and the last that pass, where one does: proofs/Laws/Span.antt shows that they are
unfoldable pub first : (ℕ → Bool) → ℕ → ℕ
first t zero = zero
first t (suc n) = cond (any_below t n) (first t n) n

unfoldable pub last : (ℕ → Bool) → ℕ → ℕ
last t zero = zero
last t (suc n) = cond (t n) n (last t n)

-- ---- of the cover

-- a list covers a position: its source there is not nothing
unfoldable pub is_covered : List Record → ℕ → Bool
is_covered rs p = not (is_nothing (cover rs p))

-- the records cover nothing: no position of the chunk
unfoldable pub covers_nothing : List Record → Bool
covers_nothing rs = not (any_below (is_covered rs) chunk)

-- p, the first covered position of the chunk, of records that cover something
unfoldable pub first_covered : List Record → ℕ
first_covered rs = first (is_covered rs) chunk

-- q, the last one
unfoldable pub last_covered : List Record → ℕ
last_covered rs = last (is_covered rs) chunk
