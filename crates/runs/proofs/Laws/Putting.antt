-- Bytes that are put into a buffer part by part, from `first` on, or only counted. Assumes nothing.
use Prim.Native.Nat.{ℕ, ◌+◌, ◌≤◌}
use native.Mathlib.Omega.{arith}
use mathlib.Core.Path.{◌≡◌, refl, sym, ap, ◌∙◌}
use mathlib.Core.Bool.{Bool, true, false, cond}
use mathlib.Core.List.{List, [], ◌++◌}
use lib.ListN.{length, length-append}
use Rattle.codec.specs.Splice.{splice}
use Rattle.codec.proofs.Laws.Splice.{length-splice, splice_then, splice-nil}

module _ (write : Bool) (out₀ : List ℕ) (first : ℕ) (all : List ℕ) where
  -- what stands before `at` is put or counted, and `rest` is still to come
  pub record Putting (out : List ℕ) (at : ℕ) (rest : List ℕ) : Type 0 where
    pub same : length out ≡ length out₀
    pub room : write ≡ true → at + length rest ≤ length out
    pub sum : at + length rest ≡ first + length all
    pub fills : cond write (splice out at rest) out ≡ cond write (splice out₀ first all) out₀

  pub putting_start : (write ≡ true → first + length all ≤ length out₀) → Putting out₀ first all
  putting_start l = record { same = refl; room = l; sum = refl; fills = refl }

  -- the next part, x
  module _ (out : List ℕ) (at : ℕ) (x rest : List ℕ) (c : Putting out at (x ++ rest)) where
    pub putting_room : write ≡ true → at + length x ≤ length out
    putting_room t = omega (arith, c.room t, length-append x rest)

    same_then : (out₁ : List ℕ) (t : Bool) → (t ≡ true → at + length x ≤ length out) → out₁ ≡ cond t (splice out at x) out → length out₁ ≡ length out
    same_then out₁ true r g = ap length g ∙ length-splice out at x (r refl)
    same_then out₁ false r g = ap length g

    fills_then : (out₁ : List ℕ) (t : Bool) → (t ≡ true → at + length x ≤ length out) → out₁ ≡ cond t (splice out at x) out
        → cond t (splice out₁ (at + length x) rest) out₁ ≡ cond t (splice out at (x ++ rest)) out
    fills_then out₁ true r g = rw g (splice_then out at x (length x) rest refl (r refl))
    fills_then out₁ false r g = g

    pub putting_more : (out₁ : List ℕ) (to : ℕ) → out₁ ≡ cond write (splice out at x) out → to ≡ at + length x → Putting out₁ to rest
    putting_more out₁ to g e =
        let n = same_then out₁ write putting_room g in
        record {
          same = n ∙ c.same;
          room = λ t. omega (arith, c.room t, length-append x rest, n);
          sum = omega (arith, c.sum, length-append x rest);
          fills = rw e (fills_then out₁ write putting_room g) ∙ c.fills;
        }

  pub putting_end : (out : List ℕ) (at : ℕ) → Putting out at [] → (at ≡ first + length all) × (out ≡ cond write (splice out₀ first all) out₀)
  putting_end out at c = (omega (arith, c.sum), go write c.fills)
    where
      go : (t : Bool) → cond t (splice out at []) out ≡ cond t (splice out₀ first all) out₀ → out ≡ cond t (splice out₀ first all) out₀
      go true r = sym (splice-nil out at) ∙ r
      go false r = r
