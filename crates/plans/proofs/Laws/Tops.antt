-- Where a position lies, by the record on top of it. Assumes nothing.
use Prim.Native.Nat.{ℕ, zero, suc, ◌+◌, ◌-◌, ◌*◌, ◌/◌, ◌%◌, ◌≤◌, ◌<◌}
use native.Mathlib.Omega.{arith}
use native.Mathlib.Nat.{suc-mul, div-add-mod', mul-mod_left, mod-lt}
use mathlib.Core.Path.{◌≡◌, refl, sym, ap, ◌∙◌}
use mathlib.Core.Bool.{true, false}
use mathlib.Core.Logic.{◌≢◌}
use mathlib.Core.List.{List}
use lib.ListN.{length}
use Rattle.codec.specs.All.{All}
use Rattle.slices.specs.Cover.{cover, given}
use Rattle.slices.specs.Passes.{Passes}
use Rattle.slices.specs.Limits.{record_size}
use Rattle.slices.specs.Record.{record_at, records, count}
use Rattle.slices.proofs.Laws.Record.{records_at}
use Rattle.slices.proofs.Laws.Cover.{given_byte}
use Rattle.slices.proofs.Laws.Sources.{cover_real}
use Rattle.resolve.specs.Resolved.{OnTop}
use Rattle.resolve.specs.Tops.{id_on}
use Rattle.resolve.proofs.Laws.Resolved.{source_some}
use Rattle.resolve.proofs.Laws.Tops.{id_cover}
use Rattle.runs.specs.Inner.{Unbroken}
use Rattle.runs.specs.Runs.{Parts, Stops}
use Rattle.views.specs.View.{next}
use Rattle.views.proofs.Laws.Segments.{top_joins}
use Rattle.plans.specs.Inner.{mark_of}
use Rattle.plans.specs.Piece.{object_mark}
use Rattle.plans.specs.Location.{location, location_at, next_location, onward}
use Rattle.plans.proofs.Laws.Locations.{id_hole, block_hole, block_byte, ids_part, ids_none, locations_on, blocks_part}
use Rattle.slices.specs.declared.Source.TheVariants.{Byte}
use Rattle.plans.specs.declared.Location.TheVariants.{Hole}

module _ (B : ℕ) (bs : List ℕ) where
  -- ---- two positions

  module _ (a p b e k : ℕ) (s : OnTop bs a p (p + 1)) (t : OnTop bs b e (e + 1)) where
    pub tops_part : id_on bs b ≢ id_on bs a → false ≡ next_location (onward (location_at B (records bs) p) k) (location_at B (records bs) e)
    unfolding location_at
    tops_part n = sym (ids_part B (cover (records bs) p) (cover (records bs) e) k (λ q. n (sym (id_cover bs b e t) ∙ q ∙ id_cover bs a p s)))

    pub tops_join : All Passes (records bs) → id_on bs a ≡ 0 → id_on bs b ≡ 0 → true ≡ next_location (onward (location_at B (records bs) p) k) (location_at B (records bs) e)
    unfolding location_at
    tops_join h x y =
        sym (ids_none B (cover (records bs) p) (cover (records bs) e) k (cover_real (records bs) h p) (cover_real (records bs) h e) (id_cover bs a p s ∙ x) (id_cover bs b e t ∙ y))

  -- ---- one position

  module _ (top p : ℕ) (t : OnTop bs top p (p + 1)) where
    module _ (h : All Passes (records bs)) (z : id_on bs top ≡ 0) where
      pub top_hole : location_at B (records bs) p ≡ Hole
      unfolding location_at
      top_hole = id_hole B (cover (records bs) p) (cover_real (records bs) h p) (id_cover bs top p t ∙ z)

      -- zeros go on as far as the cover does
      pub hole_on : (end e : ℕ) → Unbroken next (cover (records bs)) p end e → Unbroken next_location (location_at B (records bs)) p end e
      hole_on end e u =
          let l = u.some in
          let q : p + (e - p) ≡ e = omega arith in
          rw q at (locations_on B (records bs) p end e (e - p) (cover (records bs) p) u refl (block_hole B (cover (records bs) p) (e - p) (cover_real (records bs) h p) (id_cover bs top p t ∙ z) (omega arith)))

    module _ (i : ℕ) (is : top ≡ suc i) (n : (record_at bs i).id ≢ 0) where
      pub top_byte : cover (records bs) p ≡ Byte (record_at bs i).id (record_at bs i).size ((record_at bs i).off + (p - (record_at bs i).pos))
      top_byte = source_some bs top p i t is ∙ given_byte (record_at bs i) p n

      -- where a block begins, the locations part
      pub byte_parts : (q : ℕ) → 0 < B → suc q ≡ p → OnTop bs top q (q + 1) → ((record_at bs i).off + (p - (record_at bs i).pos)) % B ≡ 0 → Parts next_location (location_at B (records bs)) q
      unfolding location_at location next_location
      byte_parts q some e u z =
          let x = source_some bs top q i u is ∙ given_byte (record_at bs i) q n in
          let y : cover (records bs) (suc q) ≡ Byte (record_at bs i).id (record_at bs i).size ((record_at bs i).off + (p - (record_at bs i).pos)) = ap (cover (records bs)) e ∙ top_byte in
          let c = u.covering i is in
          let o = (record_at bs i).off + (q - (record_at bs i).pos) in
          let s : (record_at bs i).off + (p - (record_at bs i).pos) ≡ suc o = omega (arith, c.1) in
          rw (x, y) (blocks_part B (record_at bs i).id (record_at bs i).size o ((record_at bs i).off + (p - (record_at bs i).pos)) some s z)

      -- bytes go on up to the end of their block
      pub byte_on : (end e o r : ℕ) → Unbroken next (cover (records bs)) p end e → o ≡ (record_at bs i).off + (p - (record_at bs i).pos)
          → 0 < r → r ≤ e - p → r ≤ B - o % B → Unbroken next_location (location_at B (records bs)) p end (p + r)
      byte_on end e o r u q a b c =
          locations_on B (records bs) p end e r (Byte (record_at bs i).id (record_at bs i).size o) u (rw q (sym top_byte))
          (block_byte B (record_at bs i).id (record_at bs i).size o (e - p) r a b c)

-- ---- the record that gives a byte

-- record i, the top one, gives a byte of a slice to position p
pub record Giving (bs : List ℕ) (top p i : ℕ) : Type 0 where
  pub is : top ≡ suc i
  pub inside : i * record_size + record_size ≤ length bs
  pub passes : Passes (record_at bs i)
  pub from : (record_at bs i).pos ≤ p
  pub to : p < (record_at bs i).pos + (record_at bs i).len
  pub some : (record_at bs i).id ≢ 0

within : (bs : List ℕ) (i : ℕ) → i < count bs → i * record_size + record_size ≤ length bs
unfolding count
within bs i l = omega arith

pub top_giving : (bs : List ℕ) (top p w : ℕ) → All Passes (records bs) → OnTop bs top p (p + 1) → id_on bs top ≢ 0 → w ≡ top → Giving bs top p (w - 1)
unfolding id_on
top_giving bs zero p w h t n e = absurd (n refl)
top_giving bs (suc i) p w h t n e =
    let q : w - 1 ≡ i = omega arith in
    let c = t.covering i refl in
    rw q
    (record { is = refl; inside = within bs i c.0; passes = records_at Passes bs h i c.0; from = c.1; to = omega (arith, c.2); some = n })

pub top_location : (B : ℕ) (bs : List ℕ) (top p i : ℕ) → OnTop bs top p (p + 1) → Giving bs top p i → location_at B (records bs) p ≡ location B (given (record_at bs i) p)
unfolding location_at
top_location B bs top p i t g = ap (location B) (source_some bs top p i t g.is)

pub giving_mark : (B : ℕ) (bs : List ℕ) (top p i : ℕ) → Giving bs top p i → object_mark ≡ mark_of (location B (given (record_at bs i) p))
unfolding mark_of location
giving_mark B bs top p i g = rw (given_byte (record_at bs i) p g.some)

-- ---- positions under one record

pub top_within : (bs : List ℕ) (top a b : ℕ) → OnTop bs top a b → (c d : ℕ) → a ≤ c → d ≤ b → OnTop bs top c d
top_within bs top a b t c d l m =
    record {
      covering = λ i e. ((t.covering i e).0, omega (arith, (t.covering i e).1), omega (arith, (t.covering i e).2));
      cover_is = λ q x y. t.cover_is q (omega arith) (omega arith);
    }

module _ (bs : List ℕ) (top p e : ℕ) (t : OnTop bs top p e) where
  pub top_unbroken : p < e → Unbroken next (cover (records bs)) p e e
  top_unbroken l = record { some = l; inside = omega arith; joins = top_joins bs top p e t }

  -- where a block ends among them, the locations part
  pub block_stops : (B : ℕ) → 0 < B → (i : ℕ) → top ≡ suc i → (record_at bs i).id ≢ 0 → {o : ℕ} → o ≡ (record_at bs i).off + (p - (record_at bs i).pos)
      → (d : ℕ) → 0 < d → d < e - p → d ≡ B - o % B → Stops next_location (location_at B (records bs)) (p + d) e
  block_stops B some i is n {o = o} q d x y w j h l =
      let c = t.covering i is in
      let f : (record_at bs i).off + (p + d - (record_at bs i).pos) ≡ suc (o / B) * B = omega (arith, c.1, q, w, div-add-mod' o B, suc-mul (o / B) B, mod-lt o some) in
      byte_parts B bs top (p + d) (top_within bs top p e t (p + d) (p + d + 1) (omega arith) (omega arith)) i is n j some h
      (top_within bs top p e t j (j + 1) (omega arith) (omega arith)) (ap (λ (a : ℕ). a % B) f ∙ mul-mod_left (suc (o / B)) B)
