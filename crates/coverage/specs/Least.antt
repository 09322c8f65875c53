-- The first number of which something is true. Assumes nothing.
use Rattle.std.specs.Prelude.{ℕ, zero, suc, Bool, cond}

-- the first of the n numbers from `at` on of which t is true; the one behind them where there is none
unfoldable pub least_from : (ℕ → Bool) → (at n : ℕ) → ℕ
least_from t at zero = at
least_from t at (suc n) = cond (t at) at (least_from t (suc at) n)

-- the first of those below n; n where there is none
unfoldable pub least : (ℕ → Bool) → ℕ → ℕ
unfolding least_from
least t n = least_from t 0 n
