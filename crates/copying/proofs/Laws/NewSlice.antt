-- The new slice after copying: what stands in for the first records reads, from the store after copying by their plan, what they read. A list
-- in which the new id stands nowhere reads what it read before. Assumes nothing.
use Prim.Native.Nat.{ℕ, ◌+◌, ◌-◌, ◌<◌, ◌≤◌}
use native.Mathlib.Omega.{arith}
use native.Mathlib.Nat.{zero-add}
use native.Mathlib.Decide.{dec_lt}
use mathlib.Core.Path.{◌≡◌, refl, sym, ap, ◌∙◌}
use mathlib.Core.Bool.{Bool, true, false, cond}
use mathlib.Core.Logic.{◌≢◌}
use mathlib.Core.List.{List, [], ◌∷◌}
use Rattle.slices.specs.Limits.{chunk}
use Rattle.slices.specs.Cover.{cover, layer}
use Rattle.slices.proofs.Laws.Cover.{over_nothing_left, layer_in, layer_before, layer_after, given_byte}
use Rattle.plans.specs.Location.{location, location_at}
use Rattle.plans.specs.Plan.{cut_to, read_plan}
use Rattle.plans.specs.Store.{Store, fetch, reads}
use Rattle.plans.proofs.Laws.Bytes.{plan_bytes_lem}
use Rattle.compaction.specs.Span.{first_covered, last_covered, covers_nothing}
use Rattle.compaction.specs.Compaction.{extent, plan_of, new_record, stand_in}
use Rattle.copying.specs.Copy.{Copies}
use Rattle.compaction.proofs.Laws.Span.{Spans, spans, nothing_covered}
use Rattle.copying.proofs.Laws.Held.{plan_held}
use Rattle.slices.proofs.Laws.Ids.{Fresh}
use Rattle.copying.proofs.Laws.Fresh.{fresh_apart}
use Rattle.slices.specs.declared.Record.{Record}
use Rattle.slices.specs.declared.Source.{Source}
use Rattle.slices.specs.declared.Source.TheVariants.{Nothing, Byte}
use Rattle.runs.specs.Runs.{Run}
use Rattle.plans.specs.declared.Location.{Location}

-- ---- a list that copying does not concern

pub fresh_reads : (B id size : ℕ) (ps : List (Run Location)) (st st' : Store) → Copies B id size ps st st' → (rs : List Record) → Fresh id rs → (p : ℕ)
    → reads B st' rs p ≡ reads B st rs p
unfolding reads
fresh_reads B id size ps st st' c rs h p = c.stays (location_at B rs p) (λ o k. fresh_apart B id size rs h p o)

-- ---- the new record's cover

module _ (xs : List Record) (id : ℕ) where
  new_left : (p : ℕ) → p < first_covered xs → layer (new_record xs id) p ≡ Nothing
  unfolding new_record
  new_left p a = layer_before (new_record xs id) p a

  new_right : Spans xs → (p : ℕ) → last_covered xs < p → layer (new_record xs id) p ≡ Nothing
  unfolding new_record extent
  new_right s p a = layer_after (new_record xs id) p (omega (arith, s.order))

  new_inside : id ≢ 0 → (p : ℕ) → first_covered xs ≤ p → p ≤ last_covered xs → layer (new_record xs id) p ≡ Byte id (extent xs) (p - first_covered xs)
  unfolding new_record extent
  new_inside nz p a b =
      layer_in (new_record xs id) p a (omega arith) ∙ given_byte (new_record xs id) p nz ∙ ap (Byte id (extent xs)) (zero-add (p - first_covered xs))

-- ---- what is read from the new slice

-- the positions from p to q are all in the read
in_read : (xs : List Record) → Spans xs → (p : ℕ) → first_covered xs ≤ p → p ≤ last_covered xs → p - first_covered xs < cut_to chunk (first_covered xs) (extent xs)
unfolding cut_to extent
in_read xs s p a b = omega (arith, s.top)

module _ (B : ℕ) (xs : List Record) (id : ℕ) (st st' : Store) where
  -- at the positions from p to q, the new slice holds what the records read
  slice_copied : Copies B id (extent xs) (read_plan B xs chunk (first_covered xs) (extent xs)) st st' → Spans xs → (p : ℕ) → first_covered xs ≤ p → p ≤ last_covered xs
      → fetch st' (location B (Byte id (extent xs) (p - first_covered xs))) ≡ reads B st xs p
  slice_copied c s p a b =
      let e : first_covered xs + (p - first_covered xs) ≡ p = omega arith in
      let h = in_read xs s p a b in
      c.sets (p - first_covered xs) (plan_held B xs chunk (first_covered xs) (extent xs) (p - first_covered xs) h)
      ∙ plan_bytes_lem st B xs chunk (first_covered xs) (extent xs) (p - first_covered xs) h
      ∙ ap (reads B st xs) e

  module _ (nz : id ≢ 0) (fresh : Fresh id xs) (p : ℕ) (h : p < chunk) where
    new_reads : Copies B id (extent xs) (read_plan B xs chunk (first_covered xs) (extent xs)) st st' → Spans xs
        → fetch st' (location B (cover xs p)) ≡ fetch st' (location B (layer (new_record xs id) p))
    unfolding reads location_at
    new_reads c s =
        let at : Source → ℕ = λ x. fetch st' (location B x) in
        elim (dec_lt p (first_covered xs)) [
          | yes a ↦ ap at (s.left p a ∙ sym (new_left xs id p a))
          | no a ↦
              elim (dec_lt (last_covered xs) p) [
                | yes b ↦ ap at (s.right p b h ∙ sym (new_right xs id s p b))
                | no b ↦
                    fresh_reads B id (extent xs) _ st st' c xs fresh p
                    ∙ sym (slice_copied c s p (omega arith) (omega arith))
                    ∙ ap at (sym (new_inside xs id nz p (omega arith) (omega arith)))
              ]
        ]

    pub stand_in_reads : Copies B id (extent xs) (plan_of B xs) st st' → fetch st' (location B (cover xs p)) ≡ fetch st' (location B (cover (stand_in xs id) p))
    unfolding plan_of stand_in cover
    stand_in_reads c = go (covers_nothing xs) refl c
      where
        go : (b : Bool) → covers_nothing xs ≡ b → Copies B id (extent xs) (cond b [] (read_plan B xs chunk (first_covered xs) (extent xs))) st st'
            → fetch st' (location B (cover xs p)) ≡ fetch st' (location B (cover (cond b [] (new_record xs id ∷ [])) p))
        go true e c = ap (λ (x : Source). fetch st' (location B x)) (nothing_covered xs e p h)
        go false e c = new_reads c (spans xs e) ∙ ap (λ (x : Source). fetch st' (location B x)) (sym (over_nothing_left (layer (new_record xs id) p)))
