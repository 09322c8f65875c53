-- When neighbours join. A cover goes on from one position to the next unless a record starts there or has just ended, and inside a run
-- the first source tells the others. Assumes nothing.
use Prim.Native.Nat.{ℕ, zero, suc, ◌+◌, ◌-◌, ◌<◌, ◌≤◌}
use native.Mathlib.Omega.{arith}
use native.Mathlib.Nat.{add-zero, add-suc}
use native.Mathlib.Decide.{ℕ_discrete, dec_lt}
use mathlib.Core.Bool.{true, false, ◌&&◌, false≢true}
use mathlib.Core.Path.{◌≡◌, refl}
use mathlib.Core.Logic.{◌≢◌, ◌⊎◌, inl, inr}
use mathlib.Core.List.{List, [], ◌∷◌}
use lib.Dec.{eqb}
use borrow.Author.Tests.{eqb-true, eq-eqb}
use Rattle.slices.specs.Cover.{cover, over, layer, given, is_nothing}
use Rattle.runs.specs.Runs.{Run, Joins, IsRun}
use Rattle.views.specs.View.{next}
use Rattle.codec.specs.All.{All}
use Rattle.codec.proofs.Laws.Bools.{and_both}
use Rattle.views.specs.Inner.{shift}
use Rattle.slices.proofs.Laws.Cover.{layer_in, layer_before, layer_after, given-zero, given_byte}
use Rattle.slices.specs.declared.Record.{Record}
use Rattle.slices.specs.declared.Source.{Source}
use Rattle.slices.specs.declared.Source.TheVariants.{Nothing, Zero, Byte}

-- ---- where a cover goes on

pub over_next : (a b c d : Source) → next a b ≡ true → next c d ≡ true → next (over a c) (over b d) ≡ true
unfolding over next
over_next Nothing Nothing c d h k = k
over_next Nothing Zero c d h k = absurd (false≢true h)
over_next Nothing (Byte j t p) c d h k = absurd (false≢true h)
over_next Zero Nothing c d h k = absurd (false≢true h)
over_next Zero Zero c d h k = refl
over_next Zero (Byte j t p) c d h k = absurd (false≢true h)
over_next (Byte i s o) Nothing c d h k = absurd (false≢true h)
over_next (Byte i s o) Zero c d h k = absurd (false≢true h)
over_next (Byte i s o) (Byte j t p) c d h k = h

pub given_next : (r : Record) (p : ℕ) → r.pos ≤ p → Dec (r.id ≡ 0) → Joins next (given r) p
unfolding next
given_next r p h (yes z) = rw (given-zero r p z, given-zero r (suc p) z)
given_next r p h (no z) =
    rw (given_byte r p z, given_byte r (suc p) z, eq-eqb r.id r.id refl, eq-eqb r.size r.size refl)
    (eq-eqb (r.off + (suc p - r.pos)) (r.off + (p - r.pos) + 1) (omega arith))

-- away from its two ends, a record's cover goes on
pub layer_next : (r : Record) (p : ℕ) → suc p ≢ r.pos → suc p ≢ r.pos + r.len → Joins next (layer r) p
unfolding next
layer_next r p h k = go (dec_lt p r.pos) (dec_lt p (r.pos + r.len))
  where
    go : Dec (p < r.pos) → Dec (p < r.pos + r.len) → Joins next (layer r) p
    go (yes a) b = rw (layer_before r p a, layer_before r (suc p) (omega arith))
    go (no a) (yes b) = rw (layer_in r p (omega arith) b, layer_in r (suc p) (omega arith) (omega arith)) (given_next r p (omega arith) (ℕ_discrete r.id 0))
    go (no a) (no b) = rw (layer_after r p (omega arith), layer_after r (suc p) (omega arith))

-- a record starts or has just ended at p
abbrev pub Bound : ℕ → Record → Type 0
Bound p r = (p ≡ r.pos) ⊎ (p ≡ r.pos + r.len)

pub cover_next : (rs : List Record) (p : ℕ) → All (λ (r : Record). ¬ Bound (suc p) r) rs → Joins next (cover rs) p
unfolding cover next
cover_next [] p h = refl
cover_next (r ∷ rs) p h =
    over_next (cover rs p) (cover rs (suc p)) (layer r p) (layer r (suc p)) (cover_next rs p h.1)
    (layer_next r p (λ e. h.0 (inl e)) (λ e. h.0 (inr e)))

-- ---- the sources inside a run

pub next_is : (a b : Source) (k : ℕ) → next (shift a k) b ≡ true → b ≡ shift a (suc k)
unfolding next shift
next_is Nothing Nothing k h = refl
next_is Nothing Zero k h = absurd (false≢true h)
next_is Nothing (Byte j t p) k h = absurd (false≢true h)
next_is Zero Nothing k h = absurd (false≢true h)
next_is Zero Zero k h = refl
next_is Zero (Byte j t p) k h = absurd (false≢true h)
next_is (Byte i s o) Nothing k h = absurd (false≢true h)
next_is (Byte i s o) Zero k h = absurd (false≢true h)
next_is (Byte i s o) (Byte j t p) k h =
    let a = and_both (eqb i j) (eqb s t && eqb p (o + k + 1)) h in
    let b = and_both (eqb s t) (eqb p (o + k + 1)) a.1 in
    let e : i ≡ j = eqb-true i j a.0 in
    let g : s ≡ t = eqb-true s t b.0 in
    let m : p ≡ o + suc k = omega (arith, eqb-true p (o + k + 1) b.1) in
    cc

pub shift_zero : (a : Source) → a ≡ shift a 0
unfolding shift
shift_zero Nothing = refl
shift_zero Zero = refl
shift_zero (Byte i s o) = rw add-zero

pub run_from : (f : ℕ → Source) (at : ℕ) (r : Run Source) → IsRun next f at r → (k : ℕ) → k < r.len → f (at + k) ≡ shift r.first k
run_from f at r v zero h = rw (add-zero, ← v.first_is) (shift_zero r.first)
run_from f at r v (suc k) h =
    rw add-suc (next_is r.first (f (suc (at + k))) k (rw (← run_from f at r v k (omega arith)) (v.inside (at + k) (omega arith) (omega arith))))

pub run_at : (f : ℕ → Source) (at : ℕ) (r : Run Source) → IsRun next f at r → (p : ℕ) → at ≤ p → p < at + r.len → f p ≡ shift r.first (p - r.start)
run_at f at r v p h k =
    let e : at + (p - at) ≡ p = omega arith in
    rw (e, ← v.starts) at (run_from f at r v (p - at) (omega arith))

-- ---- whether a source goes on with a run, by the source's kind

pub not_nothing : (a : Source) → (a ≡ Nothing → ⊥) → is_nothing a ≡ false
unfolding is_nothing
not_nothing Nothing h = absurd (h refl)
not_nothing Zero h = refl
not_nothing (Byte i s o) h = refl

pub not_zero : (a : Source) → (a ≡ Zero → ⊥) → next a Zero ≡ false
unfolding next
not_zero Nothing h = refl
not_zero Zero h = absurd (h refl)
not_zero (Byte i s o) h = refl

pub not_byte : (a : Source) (k j t p : ℕ) → ((i s o : ℕ) → a ≡ Byte i s o → ⊥) → next (shift a k) (Byte j t p) ≡ false
unfolding next shift
not_byte Nothing k j t p h = refl
not_byte Zero k j t p h = refl
not_byte (Byte i s o) k j t p h = absurd (h i s o refl)

pub next_nothing : (a : Source) (k : ℕ) → next (shift a k) Nothing ≡ is_nothing a
unfolding next shift is_nothing
next_nothing Nothing k = refl
next_nothing Zero k = refl
next_nothing (Byte i s o) k = refl

pub next-zero : (a : Source) (k : ℕ) → next (shift a k) Zero ≡ next a Zero
unfolding next shift
next-zero Nothing k = refl
next-zero Zero k = refl
next-zero (Byte i s o) k = refl
