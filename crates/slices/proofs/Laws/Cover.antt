-- Laws of the cover. Laying over is associative, with `Nothing` as its unit, so a list's cover is its parts' covers laid over one another:
-- wherever a list is split in two, its cover is the second part's laid over the first's.
-- Assumes nothing.
use Prim.Native.Nat.{ℕ, ◌+◌, ◌-◌, ◌%◌, ◌^◌, ◌<◌, ◌≤◌}
use native.Mathlib.Omega.{arith}
use mathlib.Core.Path.{◌≡◌, refl, sym, ap, ◌∙◌}
use mathlib.Core.Logic.{◌≢◌}
use mathlib.Core.Bool.{Bool, true, false, cond, false≢true}
use lib.Dec.{eqb}
use native.Mathlib.Decide.{dec_lt}
use mathlib.Core.List.{List, [], ◌∷◌, ◌++◌}
use borrow.Author.Tests.{lt-ltb, le-ltb, le-leb, lt-leb, eq-eqb, ne_eqb}
use Rattle.slices.specs.Limits.{chunk}
use Rattle.slices.specs.Passes.{Passes}
use Rattle.slices.specs.Cover.{cover, over, layer, given, covers}
use Rattle.slices.specs.declared.Record.{Record}
use Rattle.slices.specs.declared.Source.{Source}
use Rattle.slices.specs.declared.Source.TheVariants.{Nothing, Zero, Byte}

pub over_nothing_left : (s : Source) → over Nothing s ≡ s
unfolding over
over_nothing_left s = refl

pub over_nothing_right : (s : Source) → over s Nothing ≡ s
unfolding over
over_nothing_right Nothing = refl
over_nothing_right Zero = refl
over_nothing_right (Byte i s o) = refl

pub over_assoc : (a b c : Source) → over (over a b) c ≡ over a (over b c)
unfolding over
over_assoc Nothing b c = refl
over_assoc Zero b c = refl
over_assoc (Byte i s o) b c = refl

pub cover-append : (xs ys : List Record) (p : ℕ) → cover (xs ++ ys) p ≡ over (cover ys p) (cover xs p)
unfolding cover
cover-append [] ys p = sym (over_nothing_right (cover ys p))
cover-append (r ∷ xs) ys p = ap (λ (s : Source). over s (layer r p)) (cover-append xs ys p) ∙ over_assoc (cover ys p) (cover xs p) (layer r p)

-- ---- one record's cover

pub given-zero : (r : Record) (p : ℕ) → r.id ≡ 0 → given r p ≡ Zero
unfolding given
given-zero r p e = rw (eq-eqb r.id 0 e)

pub given_byte : (r : Record) (p : ℕ) → r.id ≢ 0 → given r p ≡ Byte r.id r.size (r.off + (p - r.pos))
unfolding given
given_byte r p e = rw (ne_eqb r.id 0 e)

-- what a record gives is not nothing, so it hides what lies below
pub given_over : (r : Record) (p : ℕ) (s : Source) → over (given r p) s ≡ given r p
unfolding given over
given_over r p s = go (eqb r.id 0)
  where
    go : (z : Bool) → over (cond z Zero (Byte r.id r.size (r.off + (p - r.pos)))) s ≡ cond z Zero (Byte r.id r.size (r.off + (p - r.pos)))
    go true = refl
    go false = refl

-- a record covers the positions of its range, and no others
module _ (r : Record) (p : ℕ) where
  pub covers_in : r.pos ≤ p → p < r.pos + r.len → covers r p ≡ true
  unfolding covers
  covers_in a b = rw (le-leb r.pos p a, lt-ltb p (r.pos + r.len) b)

  pub covers_before : p < r.pos → covers r p ≡ false
  unfolding covers
  covers_before a = rw (lt-leb r.pos p a)

  pub covers_after : r.pos + r.len ≤ p → covers r p ≡ false
  unfolding covers
  covers_after a = rw (le-leb r.pos p (omega arith), le-ltb p (r.pos + r.len) a)

  pub covers_range : covers r p ≡ true → (r.pos ≤ p) × (p < r.pos + r.len)
  covers_range h = go (dec_lt p r.pos) (dec_lt p (r.pos + r.len))
    where
      go : Dec (p < r.pos) → Dec (p < r.pos + r.len) → (r.pos ≤ p) × (p < r.pos + r.len)
      go (yes a) b = absurd (false≢true (sym (covers_before a) ∙ h))
      go (no a) (no b) = absurd (false≢true (sym (covers_after (omega arith)) ∙ h))
      go (no a) (yes b) = (omega arith, b)

  pub layer_covered : covers r p ≡ true → layer r p ≡ given r p
  unfolding layer
  layer_covered h = rw h

  pub layer_not : covers r p ≡ false → layer r p ≡ Nothing
  unfolding layer
  layer_not h = rw h

pub layer_in : (r : Record) (p : ℕ) → r.pos ≤ p → p < r.pos + r.len → layer r p ≡ given r p
layer_in r p a b = layer_covered r p (covers_in r p a b)

pub layer_before : (r : Record) (p : ℕ) → p < r.pos → layer r p ≡ Nothing
layer_before r p a = layer_not r p (covers_before r p a)

pub layer_after : (r : Record) (p : ℕ) → r.pos + r.len ≤ p → layer r p ≡ Nothing
layer_after r p a = layer_not r p (covers_after r p a)

-- ---- the distance of a position behind a record's first, modulo 2 ^ 32

module _ (r : Record) (h : Passes r) (p d : ℕ) (a : p < 2 ^ 32) (b : d < 2 ^ 32) (e : (d + r.pos) % 2 ^ 32 ≡ p) where
  pub distance_in : d < r.len → (covers r p ≡ true) × (r.pos + d ≡ p)
  unfolding chunk
  distance_in l =
      let q : r.pos + d ≡ p = omega (arith, h.inside) in
      (covers_in r p (omega arith) (omega arith), q)

  pub distance_out : r.len ≤ d → covers r p ≡ false
  unfolding chunk
  distance_out l = go (dec_lt p r.pos)
    where
      go : Dec (p < r.pos) → covers r p ≡ false
      go (yes f) = covers_before r p f
      go (no f) = covers_after r p (omega (arith, h.inside))
