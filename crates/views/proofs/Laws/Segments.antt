-- The cover goes on within a segment of a resolved list. Assumes nothing.
use Prim.Native.Nat.{ℕ, zero, suc, ◌+◌, ◌-◌, ◌<◌, ◌≤◌, zero-le}
use native.Mathlib.Omega.{arith}
use native.Mathlib.Decide.{ℕ_discrete, dec_lt}
use mathlib.Core.Path.{◌≡◌, refl}
use mathlib.Core.Bool.{Bool, true}
use mathlib.Core.Logic.{inl, inr, ⊎_elim}
use mathlib.Core.List.{List}
use lib.ListN.{length, get_or}
use Rattle.slices.specs.Limits.{chunk}
use Rattle.slices.specs.Cover.{cover}
use Rattle.slices.specs.Record.{record_at, records}
use Rattle.slices.specs.declared.Source.{Source}
use Rattle.resolve.specs.Resolved.{source_of, OnTop, Resolved, Holds}
use Rattle.resolve.specs.Sweep.{Lesser}
use Rattle.resolve.proofs.Laws.Resolved.{resolved_next, resolved_front}
use Rattle.runs.specs.Runs.{runs, Joins}
use Rattle.views.specs.View.{next}
use Rattle.views.specs.Inner.{view_from}
use Rattle.runs.specs.Inner.{Unbroken}
use Rattle.views.proofs.Laws.Next.{given_next}
use Rattle.views.proofs.Laws.Count.{unbroken_length}
use Rattle.views.proofs.Laws.ViewFrom.{view_from_le, view_from_none}

source_joins : (bs : List ℕ) (top q : ℕ) → ((i : ℕ) → top ≡ suc i → (record_at bs i).pos ≤ q) → next (source_of bs top q) (source_of bs top (suc q)) ≡ true
unfolding source_of next
source_joins bs zero q h = refl
source_joins bs (suc i) q h = given_next (record_at bs i) q (h i refl) (ℕ_discrete (record_at bs i).id 0)

pub top_joins : (bs : List ℕ) (top a b : ℕ) → OnTop bs top a b → (q : ℕ) → a ≤ q → suc q < b → Joins next (cover (records bs)) q
top_joins bs top a b t q l m =
    rw (t.cover_is q l (omega arith), t.cover_is (suc q) (omega arith) m) (source_joins bs top q (λ i e. omega (arith, (t.covering i e).1)))

no_runs : (f : ℕ → Source) (end : ℕ) → length (runs next f end (end - end)) ≡ 0
unfolding runs
no_runs f end =
    let e : end - end ≡ 0 = omega arith in
    rw e

module _ (bs marks tops : List ℕ) (m : ℕ) (r : Resolved bs marks tops m chunk) where
  pub segment_unbroken : (k p end e : ℕ) → p < end → Holds marks m k p → Lesser (get_or marks (k + 1) 0) end e → Unbroken next (cover (records bs)) p end e
  segment_unbroken k p end e l h s =
      record {
        some = ⊎_elim (λ f. omega (arith, h.to)) (λ f. omega arith) s.one;
        inside = s.right;
        joins = λ q a b. top_joins bs (get_or tops k 0) (get_or marks k 0) (get_or marks (k + 1) 0) (r.on_top k h.inside) q (omega (arith, h.from)) (omega (arith, s.left));
      }

  -- the next segment holds the position where this one ends
  pub segment_next : (k end e : ℕ) → k < m → end ≤ chunk → Lesser (get_or marks (k + 1) 0) end e → e < end → Holds marks m (k + 1) e
  segment_next k end e l g s h = ⊎_elim (λ f. resolved_next bs marks tops m chunk r k e l f (omega arith)) (λ f. absurd (omega arith)) s.one

  -- ---- each segment adds at most one run

  pub segments_runs : (d k p end : ℕ) → m ≤ k + d → p < end → end ≤ chunk → Holds marks m k p → length (runs next (cover (records bs)) p (end - p)) + k ≤ m
  segments_runs zero k p end h l g s = absurd (omega (arith, s.inside))
  segments_runs (suc d) k p end h l g s =
      go (dec_lt (get_or marks (k + 1) 0) end) (λ e. segments_runs d (k + 1) e end (omega arith))
    where
      go : Dec (get_or marks (k + 1) 0 < end)
          → ((e : ℕ) → e < end → end ≤ chunk → Holds marks m (k + 1) e → length (runs next (cover (records bs)) e (end - e)) + (k + 1) ≤ m)
          → length (runs next (cover (records bs)) p (end - p)) + k ≤ m
      go (yes q) ih =
          let e = get_or marks (k + 1) 0 in
          let t : Lesser e end e = record { left = omega arith; right = omega arith; one = inl refl } in
          omega (arith, unbroken_length next (cover (records bs)) p end e (segment_unbroken k p end e l s t), ih e q g (segment_next k end e s.inside g t q))
      go (no q) ih =
          let t : Lesser (get_or marks (k + 1) 0) end end = record { left = omega arith; right = omega arith; one = inr refl } in
          omega (arith, unbroken_length next (cover (records bs)) p end end (segment_unbroken k p end end l s t), no_runs (cover (records bs)) end, s.inside)

  pub view_few : (all : Bool) (end : ℕ) → end ≤ chunk → length (view_from all (records bs) 0 end) ≤ m
  view_few all end g = go (dec_lt 0 end)
    where
      go : Dec (0 < end) → length (view_from all (records bs) 0 end) ≤ m
      go (yes l) =
          omega (arith, view_from_le all (records bs) 0 end, segments_runs m 0 0 end (omega arith) l g (resolved_front bs marks tops m chunk r (omega arith)))
      go (no l) = rw (view_from_none all (records bs) 0 end (omega arith)) zero-le
