-- A loop that writes a list piece by piece into a buffer, from `first` on, or only counts its bytes: `left p` is what is left at position p.
-- Assumes nothing.
use Prim.Native.Nat.{ℕ, suc, ◌+◌, ◌*◌, ◌<◌, ◌≤◌}
use native.Mathlib.Omega.{arith}
use native.Mathlib.Nat.{suc-mul, mul-le-mul_right}
use mathlib.Core.Path.{◌≡◌, sym, ap}
use mathlib.Core.Bool.{Bool, true, cond}
use mathlib.Core.List.{List, [], ◌∷◌, ◌++◌, flat_map}
use lib.ListN.{length}
use Rattle.codec.specs.Splice.{splice}
use Rattle.runs.proofs.Laws.Putting.{Putting, putting_start, putting_room, putting_more, putting_end}

module _ {X : Type 0} (left : ℕ → List X) (from end first : ℕ) (encode : X → List ℕ) (w : ℕ) (wide : (x : X) → length (encode x) ≡ w) where
  -- what stands before p is written, up to `at`, or only counted
  pub record Filled (write : Bool) (out₀ out : List ℕ) (p at : ℕ) : Type 0 where
    pub inside : p ≤ end
    pub few : at ≤ first + p * w
    pub puts : Putting write out₀ first (flat_map encode (left from)) out at (flat_map encode (left p))

  pub filled_start : (write : Bool) (out : List ℕ) → from ≤ end → (write ≡ true → first + length (flat_map encode (left from)) ≤ length out)
      → Filled write out out from first
  filled_start write out h l = record { inside = h; few = omega arith; puts = putting_start _ _ _ _ l }

  module _ (write : Bool) (out₀ out : List ℕ) (p at e : ℕ) (c : Filled write out₀ out p at) (l : p < e) (h : e ≤ end) where
    step : p * w + w ≤ e * w
    step = omega (arith, suc-mul p w, mul-le-mul_right {m = suc p} {n = e} w l)

    pub filled_less : left p ≡ left e → Filled write out₀ out e at
    filled_less v = record { inside = h; few = omega (arith, c.few, step); puts = rw v at c.puts }

    module _ (x : X) (v : left p ≡ x ∷ left e) where
      next : Putting write out₀ first (flat_map encode (left from)) out at (encode x ++ flat_map encode (left e))
      unfolding flat_map
      next = rw v at c.puts

      pub filled_room : write ≡ true → at + w ≤ length out
      filled_room t = omega (arith, putting_room _ _ _ _ out at (encode x) (flat_map encode (left e)) next t, wide x)

      pub filled_more : (out₁ : List ℕ) → out₁ ≡ cond write (splice out at (encode x)) out → Filled write out₀ out₁ e (at + w)
      filled_more out₁ g =
          record {
            inside = h;
            few = omega (arith, c.few, step);
            puts = putting_more _ _ _ _ _ _ _ _ next out₁ (at + w) g (ap (λ (n : ℕ). at + n) (sym (wide x)));
          }

  ended : (write : Bool) (out₀ out : List ℕ) (p at : ℕ) → Filled write out₀ out p at → left p ≡ []
      → (at ≡ first + length (flat_map encode (left from))) × (out ≡ cond write (splice out₀ first (flat_map encode (left from))) out₀)
  unfolding flat_map
  ended write out₀ out p at c v = putting_end _ _ _ _ out at (rw v at c.puts)

  pub filled_end : (write : Bool) (out₀ out : List ℕ) (p at : ℕ) → Filled write out₀ out p at → left p ≡ []
      → out ≡ cond write (splice out₀ first (flat_map encode (left from))) out₀
  filled_end write out₀ out p at c v = (ended write out₀ out p at c v).1

  pub filled_count : (write : Bool) (out₀ out : List ℕ) (p at : ℕ) → Filled write out₀ out p at → left p ≡ [] → at ≡ first + length (flat_map encode (left from))
  filled_count write out₀ out p at c v = (ended write out₀ out p at c v).0
