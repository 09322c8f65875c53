-- What one scan of a list finds of a position, without resolving the list. Assumes nothing.
use Rattle.std.specs.Prelude.{◌≡◌, ℕ, suc, ◌<◌, ◌≤◌, true, false, List}
use Rattle.slices.specs.Cover.{covers}
use Rattle.slices.specs.Record.{record_at, count}
use Rattle.resolve.specs.Resolved.{OnTop}
use Rattle.scanning.specs.declared.Scanned.{Scanned}

-- none of the records from i up to n covers q
abbrev pub Clear : List ℕ → ℕ → ℕ → ℕ → Type 0
Clear bs i n q = (j : ℕ) → i ≤ j → j < n → covers (record_at bs j) q ≡ false

-- the record s.top, counted from 1, lies on top of the positions from p up to s.end, which is no further than `end`; 0 says that there is none.
-- Where s.end is not the end, none of the records from s.before on covers the position there
pub record Scans (bs : List ℕ) (p end : ℕ) (s : Scanned) : Type 0 where
  pub some : p < s.end
  pub inside : s.end ≤ end
  pub here : OnTop bs s.top p s.end
  pub there : s.end < end → (s.before ≤ count bs) × Clear bs s.before (count bs) s.end

-- ---- inner: what the steps of the scan find

-- of the records before i, `top`, counted from 1, is the last that covers p; where it is 0 none does
pub record LastBefore (bs : List ℕ) (i p top : ℕ) : Type 0 where
  pub within : top ≤ i
  pub covering : (k : ℕ) → top ≡ suc k → covers (record_at bs k) p ≡ true
  pub behind : Clear bs top i p

-- the records from i on cover no position from p up to `at`, which is no further than `end`; where it is not the end, `top`, counted from 1, is the
-- last record that covers `at`
pub record Nearest (bs : List ℕ) (i p end at top : ℕ) : Type 0 where
  pub some : p < at
  pub inside : at ≤ end
  pub clear : (q : ℕ) → p ≤ q → q < at → Clear bs i (count bs) q
  pub there : at < end → LastBefore bs (count bs) at top
