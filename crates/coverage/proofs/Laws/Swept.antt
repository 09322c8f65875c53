-- Laws of a read that is gone over window by window. Assumes nothing.
use Prim.Native.Nat.{ℕ, ◌/◌, ◌%◌, ◌^◌, ◌≤◌, ◌<◌}
use native.Mathlib.Omega.{arith}
use mathlib.Core.Path.{◌≡◌, sym, ap, ◌∙◌}
use mathlib.Core.List.{List}
use lib.Dec.{ltb}
use borrow.Author.Tests.{lt-ltb, le-ltb}
use Rattle.codec.specs.All.{All}
use Rattle.runs.specs.Runs.{Run}
use Rattle.plans.specs.Location.{Site}
use Rattle.plans.specs.Piece.{pieces_in}
use Rattle.coverage.specs.Held.{holders, first_not_once}
use Rattle.coverage.specs.Inner.{Inside, run_at, whole, one_if, held_in, above, key_of, start_at, filled, Collected, Lying, Chained}
use Rattle.coverage.proofs.Laws.Held.{first_is, first_none}
use Rattle.coverage.proofs.Laws.Collected.{collected_held}
use Rattle.coverage.proofs.Laws.Windows.{inside_at, held_parts, held_none, held_before}

-- the pieces that begin before `low` fill each place before `cur` once, and no other
pub record Swept (plan : List ℕ) (low cur : ℕ) : Type 0 where
  pub reached : low ≤ cur
  pub held : (p : ℕ) → held_in plan 0 low (whole plan) p ≡ one_if (ltb p cur)

pub swept_none : (plan : List ℕ) → Swept plan 0 0
swept_none plan = record { reached = omega arith; held = λ p. held_none plan (whole plan) p ∙ sym (ap one_if (le-ltb p 0 (omega arith))) }

-- the key of a piece that is not too long
key_start : (r : Run Site) → r.len < above → key_of r / above ≡ r.start
unfolding key_of
key_start r l = omega arith

key_len : (r : Run Site) → r.len < above → key_of r % above ≡ r.len
unfolding key_of
key_len r l = omega arith

module _ (plan : List ℕ) (n : ℕ) (inside : All (Inside n) (pieces_in plan)) (small : n ≤ 2 ^ 30) (low high : ℕ) (keys : List ℕ) (c : ℕ)
    (h : Collected plan low high (whole plan) keys c) where
  pub keys_lie : Lying keys c
  keys_lie v l =
      let w = h.each v l in
      let r = run_at plan w.0 in
      let i = inside_at plan n inside w.0 w.1 in
      rw (w.3, key_start r (omega (arith, i.within)), key_len r (omega (arith, i.within))) (i.some, omega (arith, i.within))

  keys_begin : (v : ℕ) → v < c → start_at keys v < high
  keys_begin v l =
      (h.each v l).2

  module _ (cur q : ℕ) (s : Swept plan low cur) (l : low ≤ high) (d : Chained keys c cur q) where
    -- the keys of the window are added to what was filled before
    filled_is : (p : ℕ) → held_in plan 0 high (whole plan) p ≡ filled keys c cur p
    filled_is p = omega (arith, held_parts plan low high (whole plan) p l, s.held p, collected_held plan low high (whole plan) keys c h p)

    pub swept_stop : q < high → high ≤ n → q ≡ first_not_once (pieces_in plan) n
    swept_stop a b =
        sym
        (first_is (pieces_in plan) n q (omega arith) (λ p x. sym (held_before plan high p (omega arith)) ∙ filled_is p ∙ d.once p x)
        (λ _ e. d.other (sym (filled_is q) ∙ held_before plan high q a ∙ e)))

    pub swept_more : high ≤ q → Swept plan high q
    swept_more a = record { reached = a; held = λ p. filled_is p ∙ d.all (λ v x. omega (arith, keys_begin v x)) p }

module _ (plan : List ℕ) (n low cur : ℕ) (s : Swept plan low cur) where
  held_once : (p : ℕ) → p < low → holders (pieces_in plan) p ≡ 1
  held_once p l = sym (held_before plan low p l) ∙ s.held p ∙ ap one_if (lt-ltb p cur (omega (arith, s.reached)))

  pub swept_crowded : low < n → 1 < holders (pieces_in plan) low → low ≡ first_not_once (pieces_in plan) n
  swept_crowded l h = sym (first_is (pieces_in plan) n low (omega arith) held_once (λ _ e. omega arith))

  pub swept_all : n ≤ low → n ≡ first_not_once (pieces_in plan) n
  swept_all l = sym (first_none (pieces_in plan) n (λ p x. held_once p (omega arith)))
