-- Blocks by shifting: a block of 2 ^ bits bytes. Assumes nothing.
use Prim.Native.Nat.{ℕ, ◌-◌, ◌*◌, ◌/◌, ◌%◌, ◌^◌, ◌≤◌, ◌<◌}
use native.Mathlib.Omega.{arith}
use native.Mathlib.Nat.{div-add-mod', mod-lt, div_self}
use mathlib.Core.Path.{◌≡◌, sym, ap, ◌∙◌}
use native.Mathlib.Decide.{ℕ_discrete}
use lib.Dec.{ltb, eqb}
use lib.Pow.{pow_pos}
use borrow.Author.Tests.{lt-ltb, le-ltb, eq-eqb, ne_eqb}
use Rattle.blocks.specs.Blocks.{block_length}
use Rattle.plans.specs.Inner.{Shifts}

module _ (B bits : ℕ) (h : Shifts B bits) where
  pub shifts_some : 0 < B
  shifts_some = rw h.power (pow_pos bits)

  pub rest_less : (off : ℕ) → off % B < B
  rest_less off = mod-lt off shifts_some

  pub quotient : (off n : ℕ) → n ≡ off / 2 ^ bits → n ≡ off / B
  quotient off n e = e ∙ ap (λ (b : ℕ). off / b) (sym h.power)

  module _ (off n : ℕ) (e : n ≡ off / 2 ^ bits) where
    -- where the block begins
    begins : n * B ≡ off / B * B
    begins = ap (λ (q : ℕ). q * B) (quotient off n e)

    pub shift_below : n * B ≤ off
    shift_below = omega (arith, begins, div-add-mod' off B)

    pub shift_rest : off - n * B ≡ off % B
    shift_rest = omega (arith, begins, div-add-mod' off B)

    -- the block is the last of its slice, or a full one
    pub shift_short : (z : ℕ) → z - n * B < B → z - n * B ≡ block_length B z (off / B)
    unfolding block_length
    shift_short z l = omega (arith, begins)

    pub shift_full : (z : ℕ) → B ≤ z - n * B → B ≡ block_length B z (off / B)
    unfolding block_length
    shift_full z l = omega (arith, begins)

  -- below 2 ^ bits / 2 ^ bits is 0 alone
  pub none_test : (id n : ℕ) → n ≡ B / 2 ^ bits → ltb id n ≡ eqb id 0
  none_test id n e = go (ℕ_discrete id 0)
    where
      one : n ≡ 1
      one = e ∙ ap (λ (b : ℕ). b / 2 ^ bits) h.power ∙ div_self (pow_pos bits)

      go : Dec (id ≡ 0) → ltb id n ≡ eqb id 0
      go (yes z) = lt-ltb id n (omega (arith, one)) ∙ sym (eq-eqb id 0 z)
      go (no z) = le-ltb id n (omega (arith, one)) ∙ sym (ne_eqb id 0 z)
