-- Inner: what the steps of the code find. It serves the contracts of inner functions alone. Assumes nothing.
use Rattle.std.specs.Prelude.{ℕ, zero, suc, ◌+◌, ◌*◌, ◌/◌, ◌%◌, ◌^◌, ◌<◌, ◌≤◌, ◌≡◌, ◌≢◌, Bool, ◌&&◌, cond, List, leb, ltb, length, get_or}
use Rattle.runs.specs.Runs.{Run}
use Rattle.plans.specs.Location.{Site}
use Rattle.plans.specs.Piece.{piece_size, decode_run}
use Rattle.coverage.specs.Held.{holds}

-- a piece has a length, and lies inside a read of n bytes
pub record Inside (n : ℕ) (r : Run Site) : Type 0 where
  pub some : 0 < r.len
  pub within : r.start + r.len ≤ n

-- a plan's piece with number i
abbrev pub run_at : List ℕ → ℕ → Run Site
run_at plan i = decode_run plan (i * piece_size)

-- the first k pieces of a plan stand one behind the other from place 0 on, and end before `place`
abbrev pub InOrder : List ℕ → (k place : ℕ) → Type 0
InOrder plan zero place = place ≡ 0
InOrder plan (suc k) place = ((run_at plan k).start + (run_at plan k).len ≡ place) × InOrder plan k (run_at plan k).start

-- how many whole pieces it has
abbrev pub whole : List ℕ → ℕ
whole plan = length plan / piece_size

-- ---- counted

-- 1 where a test is passed
abbrev pub one_if : Bool → ℕ
one_if b = cond b 1 0

-- how many of the numbers below n pass a test
unfoldable pub count_below : (ℕ → Bool) → ℕ → ℕ
count_below t zero = 0
count_below t (suc n) = count_below t n + one_if (t n)

-- place p is one of the `len` places from `start` on
unfoldable pub spans : (start len p : ℕ) → Bool
spans start len p = leb start p && ltb p (start + len)

-- ---- pieces by where they begin

-- place s lies in the window from `low` up to `high`
unfoldable pub between : (low high s : ℕ) → Bool
between low high s = leb low s && ltb s high

-- how many of the first k pieces begin in the window
unfoldable pub beginning : List ℕ → (low high k : ℕ) → ℕ
beginning plan low high k = count_below (λ (i : ℕ). between low high (run_at plan i).start) k

-- how many of these hold place p
unfoldable pub held_in : List ℕ → (low high k p : ℕ) → ℕ
held_in plan low high k p = count_below (λ (i : ℕ). between low high (run_at plan i).start && holds (run_at plan i) p) k

-- ---- pieces as keys

-- 2 ^ 32: a key has the place above the length, so that keys in order are pieces in order
abbrev pub above : ℕ
above = 4294967296

unfoldable pub key_of : Run Site → ℕ
key_of r = r.start * above + r.len

abbrev pub start_at : List ℕ → ℕ → ℕ
start_at keys v = get_or keys v 0 / above

abbrev pub len_at : List ℕ → ℕ → ℕ
len_at keys v = get_or keys v 0 % above

-- how many of the first c keys hold place p
unfoldable pub keyed : List ℕ → (c p : ℕ) → ℕ
keyed keys c p = count_below (λ (v : ℕ). spans (start_at keys v) (len_at keys v) p) c

-- how many of the first c keys pass a test on the place and the length
unfoldable pub keys_that : (ℕ → ℕ → Bool) → List ℕ → (c : ℕ) → ℕ
keys_that t keys c = count_below (λ (v : ℕ). t (start_at keys v) (len_at keys v)) c

-- how many of the first k pieces begin in the window and pass it
unfoldable pub begun_that : (ℕ → ℕ → Bool) → List ℕ → (low high k : ℕ) → ℕ
begun_that t plan low high k = count_below (λ (i : ℕ). between low high (run_at plan i).start && t (run_at plan i).start (run_at plan i).len) k

-- the first c keys are those of the pieces, among the first k, that begin in the window: each as often
pub record Collected (plan : List ℕ) (low high k : ℕ) (keys : List ℕ) (c : ℕ) : Type 0 where
  pub same : (t : ℕ → ℕ → Bool) → keys_that t keys c ≡ begun_that t plan low high k
  pub each : (v : ℕ) → v < c → (i : ℕ) × (i < k) × (start_at keys v < high) × (get_or keys v 0 ≡ key_of (run_at plan i))

-- the window from `low` up to `high`, at most to n, and the keys of the pieces, among the first k, that begin in it; where it is empty, more than one
-- of them begins at `low`
pub record Windowed (plan : List ℕ) (low n k : ℕ) (keys : List ℕ) (high c : ℕ) : Type 0 where
  pub behind : low ≤ high
  pub inside : high ≤ n
  pub room : c ≤ length keys
  pub crowded : high ≡ low → 1 < beginning plan low (low + 1) k
  pub collected : low < high → Collected plan low high k keys c

-- ---- keys kept

-- of the first c keys `old`, those that begin before `high` are now the first d
pub record Kept (old : List ℕ) (c high : ℕ) (keys : List ℕ) (d : ℕ) : Type 0 where
  pub fewer : d ≤ c
  pub same : (t : ℕ → ℕ → Bool) → keys_that t keys d ≡ keys_that (λ (s l : ℕ). ltb s high && t s l) old c
  pub each : (v : ℕ) → v < d → (w : ℕ) × (w < c) × (start_at keys v < high) × (get_or keys v 0 ≡ get_or old w 0)

-- a window that ends earlier, and those of as many keys as there is room for that begin in it; all of them only where it has one place
pub record Narrowed (old : List ℕ) (low high : ℕ) (keys : List ℕ) (edge d : ℕ) : Type 0 where
  pub behind : low < edge
  pub inside : edge ≤ high
  pub narrowest : length old ≤ d → edge ≡ low + 1
  pub kept : Kept old (length old) edge keys d

-- ---- one behind the other

-- the first c keys are those of pieces that have a length and don't reach far
abbrev pub Lying : List ℕ → ℕ → Type 0
Lying keys c = (v : ℕ) → v < c → (0 < len_at keys v) × (start_at keys v + len_at keys v ≤ 2 ^ 30)

-- how many hold p: the first c keys, and what fills the places before `cur`
abbrev pub filled : List ℕ → (c cur p : ℕ) → ℕ
filled keys c cur p = one_if (ltb p cur) + keyed keys c p

-- q is the first place that is not filled once; where all keys begin before it, no place behind is filled
pub record Chained (keys : List ℕ) (c cur q : ℕ) : Type 0 where
  pub once : (p : ℕ) → p < q → filled keys c cur p ≡ 1
  pub other : filled keys c cur q ≢ 1
  pub all : ((v : ℕ) → v < c → start_at keys v < q) → (p : ℕ) → filled keys c cur p ≡ one_if (ltb p q)
