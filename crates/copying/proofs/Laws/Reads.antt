-- After copying by the pieces of the plan, old and new list read the same at each position, whatever is appended to both; and the old list
-- reads what it read before. Assumes nothing.
use Prim.Native.Nat.{ℕ, ◌<◌}
use mathlib.Core.Path.{◌≡◌, refl, sym, ap, ◌∙◌}
use mathlib.Core.Logic.{◌≢◌}
use mathlib.Core.List.{List, ◌++◌}
use lib.ListN.{take, drop, take-append-drop}
use Rattle.slices.specs.Limits.{chunk}
use Rattle.slices.specs.Cover.{cover, over}
use Rattle.slices.proofs.Laws.Cover.{cover-append}
use Rattle.plans.specs.Location.{location, location_at}
use Rattle.plans.specs.Store.{Store, fetch, reads}
use Rattle.compaction.specs.Compaction.{extent, compaction_plan, stand_in, new_list}
use Rattle.copying.specs.Copy.{Copies}
use Rattle.codec.proofs.Laws.All.{all_take}
use Rattle.slices.proofs.Laws.Ids.{Fresh}
use Rattle.copying.proofs.Laws.NewSlice.{fresh_reads, stand_in_reads}
use Rattle.slices.specs.declared.Record.{Record}
use Rattle.slices.specs.declared.Source.{Source}
use Rattle.slices.specs.declared.Source.TheVariants.{Nothing, Zero, Byte}

-- what reads alike below reads alike under the same source
under : (B : ℕ) (st : Store) (u a b : Source) → fetch st (location B a) ≡ fetch st (location B b) → fetch st (location B (over u a)) ≡ fetch st (location B (over u b))
unfolding over
under B st Nothing a b h = h
under B st Zero a b h = refl
under B st (Byte i z o) a b h = refl

cover_three : (xs ys zs : List Record) (p : ℕ) → cover ((xs ++ ys) ++ zs) p ≡ over (cover zs p) (over (cover ys p) (cover xs p))
cover_three xs ys zs p = simp cover-append

cover_first : (k : ℕ) (rs ys : List Record) (p : ℕ) → cover (rs ++ ys) p ≡ over (cover ys p) (over (cover (drop k rs) p) (cover (take k rs) p))
cover_first k rs ys p = ap (λ (l : List Record). cover (l ++ ys) p) (sym (take-append-drop k rs)) ∙ cover_three (take k rs) (drop k rs) ys p

module _ (B : ℕ) (rs : List Record) (k id : ℕ) (fresh : Fresh id rs) (st st' : Store) (c : Copies B id (extent (take k rs)) (compaction_plan B rs k) st st') where
  pub pieces_old : (p : ℕ) → reads B st' rs p ≡ reads B st rs p
  pieces_old p = fresh_reads B id (extent (take k rs)) (compaction_plan B rs k) st st' c rs fresh p

  pub pieces_law : id ≢ 0 → (ys : List Record) (p : ℕ) → p < chunk → reads B st' (rs ++ ys) p ≡ reads B st' (new_list rs k id ++ ys) p
  unfolding reads location_at new_list compaction_plan
  pieces_law nz ys p h =
      let xs = take k rs in
      let zs = drop k rs in
      let at : Source → ℕ = λ x. fetch st' (location B x) in
      ap at (cover_first k rs ys p)
      ∙ under B st' (cover ys p) (over (cover zs p) (cover xs p)) (over (cover zs p) (cover (stand_in xs id) p))
      (under B st' (cover zs p) (cover xs p) (cover (stand_in xs id) p)
      (stand_in_reads B xs id st st' nz (all_take (λ (r : Record). r.id ≢ id) k rs fresh) p h c))
      ∙ sym (ap at (cover_three (stand_in xs id) zs ys p))
