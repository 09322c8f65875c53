-- The first and the last covered position by the records' own numbers: the least pos, and the greatest pos + len, of those that are not
-- empty. Assumes nothing.
use Prim.Native.Nat.{ℕ, ◌+◌, ◌-◌, ◌≤◌, ◌<◌, min, max}
use native.Mathlib.Decide.{dec_lt}
use native.Mathlib.Omega.{arith}
use mathlib.Core.Bool.{Bool, true, false, cond, true≢false}
use mathlib.Core.Path.{◌≡◌, refl, sym, ◌∙◌}
use mathlib.Core.Logic.{◌≢◌}
use mathlib.Core.List.{List, [], ◌∷◌}
use lib.Dec.{eqb}
use borrow.Author.Tests.{eqb-true, eqb-false}
use Rattle.codec.specs.All.{All}
use Rattle.slices.specs.Limits.{chunk}
use Rattle.slices.specs.Passes.{Passes}
use Rattle.slices.proofs.Laws.Cover.{covers_in, covers_before, covers_after}
use Rattle.compaction.specs.Span.{first, last, is_covered, first_covered, last_covered, covers_nothing}
use Rattle.compaction.specs.Inner.{lowest, highest}
use Rattle.compaction.proofs.Laws.Covered.{covered-nil, covers_empty, none, rest, here}
use Rattle.compaction.proofs.Laws.Span.{some_below, all_below, first_is, last_is, first_unique, last_unique, something_covered}
use Rattle.slices.specs.declared.Record.{Record}

-- ---- p

-- nothing is covered below m, and m is, where it is a position of the chunk
record Low (rs : List Record) (m : ℕ) : Type 0 where
  high : m ≤ chunk
  before : (p : ℕ) → p < m → is_covered rs p ≡ false
  covered : m < chunk → is_covered rs m ≡ true

lowest_low : (rs : List Record) → Low rs (lowest rs)
unfolding lowest
lowest_low [] = record { high = omega arith; before = λ p b. covered-nil p; covered = λ l. absurd (omega arith) }
lowest_low (r ∷ rs) = go (eqb r.len 0) refl (lowest_low rs)
  where
    go : (b : Bool) → eqb r.len 0 ≡ b → Low rs (lowest rs) → Low (r ∷ rs) (cond b (lowest rs) (min r.pos (lowest rs)))
    go true e h =
        record {
          high = h.high;
          before = λ p b. none r rs p (h.before p b) (covers_empty r p (eqb-true r.len 0 e));
          covered = λ l. rest r rs (lowest rs) (h.covered l);
        }
    go false e h =
        record {
          high = omega (arith, h.high);
          before = λ p b. none r rs p (h.before p (omega arith)) (covers_before r p (omega arith));
          covered = λ l. elim (dec_lt (lowest rs) r.pos) [
            | yes q ↦ (let d : min r.pos (lowest rs) ≡ lowest rs = omega arith in rw d (rest r rs (lowest rs) (h.covered (omega arith))))
            | no q ↦
                (let d : min r.pos (lowest rs) ≡ r.pos = omega arith in
                rw d (here r rs r.pos (covers_in r r.pos (omega arith) (omega (arith, eqb-false r.len 0 e)))))
          ];
        }

pub lowest_nothing : (rs : List Record) → lowest rs ≡ chunk → covers_nothing rs ≡ true
unfolding covers_nothing
lowest_nothing rs e = rw (all_below (is_covered rs) chunk (λ p l. (lowest_low rs).before p (omega arith)))

module _ (rs : List Record) (ne : lowest rs ≢ chunk) where
  below : lowest rs < chunk
  below = let h = (lowest_low rs).high in elim (dec_lt (lowest rs) chunk) [ yes l ↦ l | no l ↦ absurd (ne (omega arith)) ]

  pub lowest_something : covers_nothing rs ≡ false
  unfolding covers_nothing
  lowest_something = rw (some_below (is_covered rs) chunk (lowest rs) below ((lowest_low rs).covered below))

  pub first_lowest : first_covered rs ≡ lowest rs
  unfolding first_covered
  first_lowest =
      let t = is_covered rs in
      let h = lowest_low rs in
      first_unique t chunk (first t chunk) (lowest rs) (first_is t chunk (some_below t chunk (lowest rs) below (h.covered below)))
      (record { inside = below; here = h.covered below; before = h.before })

-- ---- q + 1

-- nothing is covered from m on, and the position before m is
pub record IsTop (rs : List Record) (m : ℕ) : Type 0 where
  pub bound : m ≤ chunk
  pub beyond : (p : ℕ) → m ≤ p → is_covered rs p ≡ false
  pub top : 0 < m → is_covered rs (m - 1) ≡ true

pub highest_top : (rs : List Record) → All Passes rs → IsTop rs (highest rs)
unfolding highest
highest_top [] w = record { bound = omega arith; beyond = λ p a. covered-nil p; top = λ h. absurd (omega arith) }
highest_top (r ∷ rs) w = go (eqb r.len 0) refl (highest_top rs w.1)
  where
    go : (b : Bool) → eqb r.len 0 ≡ b → IsTop rs (highest rs) → IsTop (r ∷ rs) (cond b (highest rs) (max (r.pos + r.len) (highest rs)))
    go true e h =
        record {
          bound = h.bound;
          beyond = λ p a. none r rs p (h.beyond p a) (covers_empty r p (eqb-true r.len 0 e));
          top = λ l. rest r rs (highest rs - 1) (h.top l);
        }
    go false e h =
        record {
          bound = omega (arith, h.bound, w.0.inside);
          beyond = λ p a. none r rs p (h.beyond p (omega arith)) (covers_after r p (omega arith));
          top = λ l. elim (dec_lt (r.pos + r.len) (highest rs)) [
            | yes q ↦
                (let d : max (r.pos + r.len) (highest rs) - 1 ≡ highest rs - 1 = omega arith in
                rw d (rest r rs (highest rs - 1) (h.top (omega arith))))
            | no q ↦
                (let d : max (r.pos + r.len) (highest rs) - 1 ≡ r.pos + r.len - 1 = omega arith in
                let n = eqb-false r.len 0 e in
                rw d (here r rs (r.pos + r.len - 1) (covers_in r (r.pos + r.len - 1) (omega arith) (omega arith))))
          ];
        }

pub last_highest : (rs : List Record) → All Passes rs → covers_nothing rs ≡ false → last_covered rs + 1 ≡ highest rs
unfolding last_covered
last_highest rs w e =
    let t = is_covered rs in
    let l = last_is t chunk (something_covered rs e) in
    let h = highest_top rs w in
    let some : 0 < highest rs =
    elim (dec_lt 0 (highest rs)) [ yes a ↦ a | no a ↦ absurd (true≢false (sym l.here ∙ h.beyond (last t chunk) (omega arith))) ] in
    let m = last_unique t chunk (last t chunk) (highest rs - 1) l (record { inside = omega (arith, h.bound); here = h.top some; beyond = λ p a b. h.beyond p (omega arith) }) in
    omega arith
