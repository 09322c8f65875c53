-- Laws of windows of places: what is held in them, and how they make up a read. Assumes nothing.
use Prim.Native.Nat.{ℕ, ◌+◌, ◌≤◌, ◌<◌}
use native.Mathlib.Omega.{arith}
use native.Mathlib.Decide.{dec_lt}
use mathlib.Core.Path.{◌≡◌, refl, sym, subst, ◌∙◌}
use mathlib.Core.Bool.{Bool, true, false, ◌&&◌, and-false}
use mathlib.Core.List.{List}
use lib.Dec.{leb, ltb}
use lib.ListN.{length}
use borrow.Author.Tests.{leb-true, ltb-true}
use Rattle.codec.specs.All.{All}
use Rattle.codec.specs.Groups.{groups}
use Rattle.codec.proofs.Laws.Bools.{and_both}
use Rattle.codec.proofs.Laws.Groups.{groups_at}
use Rattle.runs.specs.Runs.{Run}
use Rattle.plans.specs.Location.{Site}
use Rattle.plans.specs.Piece.{piece_size, decode_run, pieces_in}
use Rattle.coverage.specs.Held.{holds, holders}
use Rattle.coverage.specs.Inner.{Inside, run_at, whole, one_if, between, beginning, held_in, Collected, Windowed}
use Rattle.coverage.proofs.Laws.Count.{count_none, count_less, count_same, count_parts, count_grows}
use Rattle.coverage.proofs.Laws.Held.{holds_in, holds_both, holders_count}
use Rattle.coverage.proofs.Laws.Collected.{in_window, before_window, behind_window}

between_both : (low high s : ℕ) → between low high s ≡ true → (low ≤ s) × (s < high)
unfolding between
between_both low high s h =
    let b = and_both (leb low s) (ltb s high) h in
    (leb-true low s b.0, ltb-true s high b.1)

pub inside_at : (plan : List ℕ) (n : ℕ) → All (Inside n) (pieces_in plan) → (i : ℕ) → i < whole plan → Inside n (run_at plan i)
unfolding pieces_in groups
inside_at plan n h i l = groups_at decode_run piece_size (Inside n) plan 0 (whole plan) h i (omega arith) (omega arith)

-- pieces that begin at one place all hold it
pub crowd_held : (plan : List ℕ) (n low : ℕ) → All (Inside n) (pieces_in plan) → 1 < beginning plan low (low + 1) (whole plan) → 1 < holders (pieces_in plan) low
unfolding beginning
crowd_held plan n low h more =
    let less = count_less (λ (i : ℕ). between low (low + 1) (run_at plan i).start) (λ (i : ℕ). holds (run_at plan i) low) (whole plan) here in
    rw (holders_count plan low) (omega arith)
  where
    here : (i : ℕ) → i < whole plan → between low (low + 1) (run_at plan i).start ≡ true → holds (run_at plan i) low ≡ true
    here i l b =
        let w = between_both low (low + 1) (run_at plan i).start b in
        holds_in (run_at plan i) low (omega arith) (omega (arith, (inside_at plan n h i l).some))

-- ---- found

module _ (plan : List ℕ) (low n k : ℕ) (keys : List ℕ) where
  pub window_found : (high c : ℕ) → low < high → high ≤ n → c ≤ length keys → Collected plan low high k keys c → Windowed plan low n k keys high c
  window_found high c a b l h = record { behind = omega arith; inside = b; room = l; crowded = λ e. absurd (omega arith); collected = λ _. h }

  pub window_none : low ≤ n → 1 < beginning plan low (low + 1) k → Windowed plan low n k keys low 0
  window_none a h = record { behind = omega arith; inside = a; room = omega arith; crowded = λ _. h; collected = λ l. absurd (omega arith) }

  -- no piece is left
  pub window_end : (m high c : ℕ) → k ≡ m → low < high → high ≤ n → c ≤ length keys → Collected plan low high k keys c → Windowed plan low n m keys high c
  window_end m high c e a b l h = subst (λ (x : ℕ). Windowed plan low n x keys high c) e (window_found high c a b l h)

-- as many of the first pieces as begin at a place do so among all
pub crowd_grows : (plan : List ℕ) (low k m : ℕ) → k ≤ m → 1 < beginning plan low (low + 1) k → 1 < beginning plan low (low + 1) m
unfolding beginning
crowd_grows plan low k m l h = omega (arith, count_grows (λ (i : ℕ). between low (low + 1) (run_at plan i).start) k m l)

-- ---- windows side by side

-- what is held by pieces of two windows
pub held_parts : (plan : List ℕ) (low high k p : ℕ) → low ≤ high → held_in plan 0 low k p + held_in plan low high k p ≡ held_in plan 0 high k p
unfolding held_in
held_parts plan low high k p l =
    count_parts (λ (i : ℕ). between 0 low (run_at plan i).start && holds (run_at plan i) p)
    (λ (i : ℕ). between low high (run_at plan i).start && holds (run_at plan i) p)
    (λ (i : ℕ). between 0 high (run_at plan i).start && holds (run_at plan i) p)
    k
    (λ i _. go (run_at plan i).start (holds (run_at plan i) p) (dec_lt (run_at plan i).start low) (dec_lt (run_at plan i).start high))
  where
    go : (s : ℕ) (b : Bool) → Dec (s < low) → Dec (s < high) → one_if (between 0 low s && b) + one_if (between low high s && b) ≡ one_if (between 0 high s && b)
    go s b (yes x) y = rw (in_window 0 low s (omega arith) x, before_window low high s x, in_window 0 high s (omega arith) (omega arith)) (omega arith)
    go s b (no x) (yes y) = rw (behind_window 0 low s (omega arith), in_window low high s (omega arith) y, in_window 0 high s (omega arith) y) (omega arith)
    go s b (no x) (no y) = rw (behind_window 0 low s (omega arith), behind_window low high s (omega arith), behind_window 0 high s (omega arith))

-- no piece yet
pub held_none : (plan : List ℕ) (k p : ℕ) → held_in plan 0 0 k p ≡ 0
unfolding held_in
held_none plan k p =
    count_none (λ (i : ℕ). between 0 0 (run_at plan i).start && holds (run_at plan i) p) k (λ i _. rw (behind_window 0 0 (run_at plan i).start (omega arith)))

-- a place is held by pieces that begin no later
pub held_before : (plan : List ℕ) (high p : ℕ) → p < high → held_in plan 0 high (whole plan) p ≡ holders (pieces_in plan) p
unfolding held_in
held_before plan high p l =
    count_same (λ (i : ℕ). between 0 high (run_at plan i).start && holds (run_at plan i) p) (λ (i : ℕ). holds (run_at plan i) p) (whole plan)
    (λ i _. go (run_at plan i) (holds (run_at plan i) p) refl)
    ∙ sym (holders_count plan p)
  where
    go : (r : Run Site) (b : Bool) → holds r p ≡ b → (between 0 high r.start && b) ≡ b
    go r true e = rw (in_window 0 high r.start (omega arith) (omega (arith, (holds_both r p e).0)))
    go r false e = and-false (between 0 high r.start)
