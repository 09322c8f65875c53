-- Laws of refusal 21: when the chunks of a file are wrong. Assumes nothing.
use Prim.Native.Nat.{ℕ, ◌+◌, ◌-◌, ◌^◌, ◌<◌, ◌≤◌}
use native.Mathlib.Omega.{arith}
use native.Mathlib.Decide.{dec_lt}
use mathlib.Core.Path.{◌≡◌, refl, sym, ◌∙◌}
use mathlib.Core.Bool.{Bool, true, false, not}
use mathlib.Core.List.{List}
use lib.Dec.{ltb, eqb}
use lib.ListN.{length}
use borrow.Author.Tests.{eq-eqb, ne_eqb, lt-ltb, le-ltb, ltb-false, eqb-true, eqb-false}
use Rattle.codec.proofs.Laws.Bools.{or_none}
use Rattle.slices.specs.Limits.{max_index}
use Rattle.joined.specs.Lists.{total}
use Rattle.files.specs.Limits.{max_lists}
use Rattle.files.specs.Calls.{wrong_chunks}

-- the last index is past 32 bits exactly where the first is above what so many lists leave
last_index : (n first : ℕ) → 0 < n → n ≤ max_lists → ltb (max_index - (n - 1)) first ≡ ltb max_index (first + n - 1)
last_index n first s h = go (dec_lt max_index (first + n - 1))
  where
    go : Dec (max_index < first + n - 1) → ltb (max_index - (n - 1)) first ≡ ltb max_index (first + n - 1)
    go (yes l) = lt-ltb (max_index - (n - 1)) first (omega arith) ∙ sym (lt-ltb max_index (first + n - 1) l)
    go (no l) = le-ltb (max_index - (n - 1)) first (omega arith) ∙ sym (le-ltb max_index (first + n - 1) (omega arith))

module _ (ns : List ℕ) (bytes first : ℕ) where
  pub wrong_none : length ns ≡ 0 → true ≡ wrong_chunks ns bytes first
  unfolding wrong_chunks
  wrong_none h = rw (eq-eqb (length ns) 0 h)

  pub wrong_many : max_lists < length ns → true ≡ wrong_chunks ns bytes first
  unfolding wrong_chunks
  wrong_many h = rw (ne_eqb (length ns) 0 (λ e. omega arith), lt-ltb max_lists (length ns) h)

  module _ (some : 0 < length ns) (few : length ns ≤ max_lists) (t : Bool) (e : t ≡ eqb (total ns) bytes) where
    pub wrong_sum : t ≡ false → true ≡ wrong_chunks ns bytes first
    unfolding wrong_chunks
    wrong_sum h = rw (ne_eqb (length ns) 0 (λ z. omega arith), le-ltb max_lists (length ns) few, ← e, h)

    pub wrong_index : t ≡ true → ltb (max_index - (length ns - 1)) first ≡ wrong_chunks ns bytes first
    unfolding wrong_chunks
    wrong_index h = rw (ne_eqb (length ns) 0 (λ z. omega arith), le-ltb max_lists (length ns) few, ← e, h) (last_index (length ns) first some few)

-- what holds of the chunks where they are not wrong
pub record Right (ns : List ℕ) (bytes first : ℕ) : Type 0 where
  pub some : 0 < length ns
  pub few : length ns ≤ max_lists
  pub adds : total ns ≡ bytes
  pub indexes : first + length ns ≤ 2 ^ 32

not-false : (t : Bool) → not t ≡ false → t ≡ true
not-false true h = refl
not-false false h = sym h

pub right_chunks : (ns : List ℕ) (bytes first : ℕ) → wrong_chunks ns bytes first ≡ false → Right ns bytes first
unfolding wrong_chunks
right_chunks ns bytes first h =
    let a = or_none _ _ h in
    let b = or_none _ _ a.1 in
    let c = or_none _ _ b.1 in
    let none = eqb-false (length ns) 0 a.0 in
    let few = ltb-false max_lists (length ns) b.0 in
    let last = ltb-false max_index (first + length ns - 1) c.1 in
    let some : 0 < length ns = omega (arith, none) in
    record { some = some; few = few; adds = eqb-true (total ns) bytes (not-false _ c.0); indexes = omega arith }
