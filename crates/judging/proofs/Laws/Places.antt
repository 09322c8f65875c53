-- How far the positions of a list lie where a piece says. Assumes nothing.
use Prim.Native.Nat.{ℕ, ◌+◌, ◌-◌, ◌<◌, ◌≤◌}
use native.Mathlib.Omega.{arith}
use native.Mathlib.Nat.{add_assoc}
use native.Mathlib.Decide.{dec_lt}
use mathlib.Core.Path.{◌≡◌, refl, sym, ap, ◌∙◌}
use mathlib.Core.Bool.{Bool, true, false, cond, true≢false}
use mathlib.Core.List.{List}
use lib.Dec.{eqb}
use lib.ListN.{get_or}
use Rattle.runs.specs.Inner.{Unbroken}
use Rattle.runs.proofs.Laws.Walk.{value_at}
use Rattle.slices.specs.Limits.{chunk}
use Rattle.resolve.specs.Resolved.{Resolved, Holds}
use Rattle.resolve.proofs.Laws.Resolved.{resolved_front, resolved_next}
use Rattle.plans.specs.Location.{location_at, next_location, onward}
use Rattle.plans.specs.Piece.{zeros_mark, location_of}
use Rattle.plans.proofs.Laws.Locations.{onward-zero, next_location_is}
use Rattle.judging.specs.Judge.{same_location}
use Rattle.judging.specs.Inner.{LiesAt, StraysAt}
use Rattle.judging.proofs.Laws.Wrong.{same_location_is}
use Rattle.slices.specs.declared.Record.{Record}
use Rattle.plans.specs.declared.Location.{Location}
use Rattle.plans.specs.declared.Location.TheVariants.{Hole, In}
use Rattle.plans.specs.declared.Piece.{Piece}

onward_onward : (a : Location) (j k : ℕ) → onward (onward a j) k ≡ onward a (j + k)
unfolding onward
onward_onward Hole j k = refl
onward_onward (In i b l a) j k = rw (add_assoc a j k)

module _ (B : ℕ) (rs : List Record) (q : ℕ) (a : Location) where
  -- all before `at` lie there; what does `at` itself?
  module _ (at : ℕ) (behind : q ≤ at) (t : Bool) (told : t ≡ same_location (onward a (at - q)) (location_at B rs at)) where
    pub strays_here : t ≡ false → (end : ℕ) → at < end → StraysAt B rs q (end - q) a
    strays_here h end l =
        let z : q + (at - q) ≡ at = omega arith in
        record {
          at = at - q;
          inside = omega arith;
          other = λ e. true≢false (sym (told ∙ (same_location_is _ _).1 (e ∙ ap (location_at B rs) z)) ∙ h);
        }

    -- if it does, so do those up to which the locations go on
    module _ (h : t ≡ true) (end e : ℕ) (u : Unbroken next_location (location_at B rs) at end e) (before : LiesAt B rs q (at - q) a) where
      same : onward a (at - q) ≡ location_at B rs at
      same = (same_location_is _ _).0 (sym told ∙ h)

      pub lies_on : LiesAt B rs q (e - q) a
      lies_on j l = go (dec_lt j (at - q))
        where
          go : Dec (j < at - q) → onward a j ≡ location_at B rs (q + j)
          go (yes k) = before j k
          go (no k) =
              let d = j - (at - q) in
              let x : at - q + d ≡ j = omega arith in
              let y : at + d ≡ q + j = omega arith in
              let z = value_at next_location onward onward-zero next_location_is (location_at B rs) at end e u d (omega arith) in
              ap (onward a) (sym x) ∙ sym (onward_onward a (at - q) d) ∙ ap (λ (s : Location). onward s d) same ∙ sym z ∙ ap (location_at B rs) y

-- the segment from which to go on
module _ (bs marks tops : List ℕ) (m end : ℕ) (s : Resolved bs marks tops m end) (k at e r : ℕ) (h : Holds marks m k at) where
  pub following_holds : at < e → e ≤ get_or marks (k + 1) 0 → e < end → (e < get_or marks (k + 1) 0 → r ≡ k) → (get_or marks (k + 1) 0 ≤ e → r ≡ k + 1) → Holds marks m r e
  following_holds l u i here next = go (dec_lt e (get_or marks (k + 1) 0))
    where
      go : Dec (e < get_or marks (k + 1) 0) → Holds marks m r e
      go (yes x) = rw (here x) (record { inside = h.inside; from = omega (arith, h.from); to = x })
      go (no x) = rw (next (omega arith)) (resolved_next bs marks tops m end s k e h.inside (omega arith) i)

-- where no byte of an object lies
pub hole_same : (p : Piece) (d : ℕ) → eqb p.mark zeros_mark ≡ same_location (onward (location_of p) d) Hole
unfolding same_location onward location_of
hole_same p d = go (eqb p.mark zeros_mark)
  where
    go : (t : Bool) → t ≡ same_location (onward (cond t Hole (In p.id p.block p.length p.at)) d) Hole
    go true = refl
    go false = refl

-- a chunk has a segment
pub some_segment : (bs marks tops : List ℕ) (m : ℕ) → Resolved bs marks tops m chunk → 0 < m
unfolding chunk
some_segment bs marks tops m s = (resolved_front bs marks tops m _ s (omega arith)).inside
