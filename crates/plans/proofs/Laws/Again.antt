-- A view fed back as a list reads alike up to its chunk length, and is read by the same plan. Assumes nothing.
use Prim.Native.Nat.{ℕ, ◌+◌, ◌<◌, ◌≤◌}
use native.Mathlib.Omega.{arith}
use mathlib.Core.Path.{◌≡◌, refl, sym, ap, ◌∙◌}
use mathlib.Core.Bool.{false≢true}
use mathlib.Core.List.{List}
use lib.ListN.{length, take}
use Rattle.codec.specs.All.{All, Bytes}
use Rattle.outcomes.specs.Answers.{Answers}
use Rattle.slices.specs.Limits.{chunk}
use Rattle.slices.specs.Cover.{cover, is_nothing}
use Rattle.slices.specs.Passes.{Passes}
use Rattle.slices.specs.Record.{records}
use Rattle.runs.proofs.Laws.Runs.{runs_cong}
use Rattle.views.specs.View.{view}
use Rattle.views.specs.Calls.{view_outcome}
use Rattle.views.specs.Again.{Again}
use Rattle.views.proofs.Laws.Again.{view_again, view_wrote_again}
use Rattle.plans.specs.Location.{location, location_at, next_location}
use Rattle.plans.specs.Plan.{cut_to, location_from, pieces, read_plan}
use Rattle.plans.specs.Store.{Store, fetch, reads}
use Rattle.plans.specs.Piece.{chunk_bytes}
use Rattle.plans.specs.Calls.{plan_bytes}
use Rattle.slices.specs.declared.Record.{Record}
use Rattle.slices.specs.declared.Source.{Source}
use Rattle.slices.specs.declared.Source.TheVariants.{Nothing, Zero, Byte}
use Rattle.std.specs.Prelude.{Ok}

module _ (rs again : List Record) (l : ℕ) (a : Again rs again l) (B : ℕ) where
  -- nothing and a zero lie nowhere
  same_location_lem : (p : ℕ) → p < l → location_at B again p ≡ location_at B rs p
  unfolding location_at location is_nothing
  same_location_lem p k = go (cover rs p) refl
    where
      go : (s : Source) → cover rs p ≡ s → location B (cover again p) ≡ location B (cover rs p)
      go Nothing e = rw (a.hole p k e, e)
      go Zero e = ap (location B) (a.covered p k (λ n. false≢true (ap is_nothing (sym e ∙ n))))
      go (Byte i s o) e = ap (location B) (a.covered p k (λ n. false≢true (ap is_nothing (sym e ∙ n))))

  same_reads : (st : Store) (p : ℕ) → p < l → reads B st again p ≡ reads B st rs p
  unfolding reads
  same_reads st p k = ap (fetch st) (same_location_lem p k)

  same_plan : (m start count : ℕ) → m ≤ l → read_plan B again m start count ≡ read_plan B rs m start count
  unfolding read_plan pieces location_from cut_to
  same_plan m start count h =
      runs_cong next_location (location_from B again start) (location_from B rs start) 0 (cut_to m start count) (λ i x y. same_location_lem (start + i) (omega arith))

-- ---- the view of a list whose records pass

module _ (rs : List Record) (h : All Passes rs) (l : ℕ) (c : l ≤ chunk) (B : ℕ) where
  pub view_again_reads : (st : Store) (p : ℕ) → p < l → reads B st (view rs l) p ≡ reads B st rs p
  view_again_reads = same_reads rs (view rs l) l (view_again rs h l c) B

  -- of a read that is cut to the view's chunk length or to less
  pub view_again_plan : (m start count : ℕ) → m ≤ l → read_plan B (view rs l) m start count ≡ read_plan B rs m start count
  view_again_plan = same_plan rs (view rs l) l (view_again rs h l c) B

-- ---- the bytes that the call wrote

module _ (bs : List ℕ) (b : Bytes bs) (l : ℕ) (before after : List ℕ) (n : ℕ) (a : Answers (view_outcome bs l (length before)) before (Ok n) after) (B : ℕ) where
  pub view_wrote_again_reads : (st : Store) (p : ℕ) → p < l → reads B st (records (take n after)) p ≡ reads B st (records bs) p
  view_wrote_again_reads = same_reads (records bs) (records (take n after)) l (view_wrote_again bs b l before after n a).means B

  pub view_wrote_again_plan : (index m start count : ℕ) → m ≤ l → plan_bytes (take n after) index m B start count ≡ plan_bytes bs index m B start count
  unfolding plan_bytes
  view_wrote_again_plan index m start count k =
      ap (chunk_bytes index 0) (same_plan (records bs) (records (take n after)) l (view_wrote_again bs b l before after n a).means B m start count k)
