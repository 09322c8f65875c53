-- The runs of a plan are pieces of 34 bytes. Assumes nothing.
use Prim.Native.Nat.{ℕ, ◌+◌, ◌-◌, ◌*◌, ◌/◌, ◌%◌, ◌^◌, ◌<◌, ◌≤◌, min}
use native.Mathlib.Omega.{arith}
use native.Mathlib.Nat.{div-le_self, mod-le}
use mathlib.Core.Path.{◌≡◌}
use mathlib.Core.Bool.{false}
use mathlib.Core.List.{List, [], ◌∷◌, map}
use borrow.Author.Tests.{ltb-false}
use Rattle.codec.specs.All.{All}
use Rattle.slices.specs.Limits.{chunk, max_index}
use Rattle.slices.specs.Cover.{cover}
use Rattle.slices.specs.Passes.{Passes}
use Rattle.slices.specs.Record.{Fits}
use Rattle.blocks.specs.Blocks.{block_length}
use Rattle.runs.specs.Runs.{Run, Valid}
use Rattle.runs.proofs.Laws.Runs.{valid_le}
use Rattle.slices.proofs.Laws.Sources.{Real, IdFits, cover_real, cover_id}
use Rattle.plans.specs.Location.{location, location_at, next_location}
use Rattle.plans.specs.Piece.{piece_of, in_chunk, PieceFits, RunFits}
use Rattle.plans.specs.Calls.{past_index}
use Rattle.plans.specs.Plan.{cut_to, location_from, pieces, read_plan}
use Rattle.plans.proofs.Laws.Divide.{pieces_divide}
use Rattle.slices.specs.declared.Record.{Record}
use Rattle.slices.specs.declared.Source.{Source}
use Rattle.slices.specs.declared.Source.TheVariants.{Nothing, Zero, Byte}
use Rattle.plans.specs.declared.Location.{Location}
use Rattle.plans.specs.declared.Location.TheVariants.{Hole, In}

-- the numbers of a location fit their bytes
abbrev pub LocationFits : Location → Type 0
LocationFits Hole = Unit {0}
LocationFits (In i b l a) = (i < 2 ^ 64) × (b < 2 ^ 32) × (l < 2 ^ 32) × (a < 2 ^ 32)

in_chunk_lem : (n : ℕ) → n ≤ chunk → n < 2 ^ 32
unfolding chunk
in_chunk_lem n h = omega arith

-- an index that is not refused
pub index_fits : (index : ℕ) → past_index index ≡ false → index < 2 ^ 32
unfolding past_index
index_fits index h = omega (arith, ltb-false max_index index h)

location_fits : (B : ℕ) (s : Source) → Real s → IdFits s → LocationFits (location B s)
unfolding location block_length
location_fits B Nothing h k = tt
location_fits B Zero h k = tt
location_fits B (Byte i z o) h k = (
  k,
  in_chunk_lem (o / B) (omega (arith, h.1, h.2, div-le_self o B)),
  in_chunk_lem (min B (z - o / B * B)) (omega (arith, h.1)),
  in_chunk_lem (o % B) (omega (arith, h.1, h.2, mod-le o B)),
)

piece_fits : (index from len : ℕ) (a : Location) → index < 2 ^ 32 → from < 2 ^ 32 → len < 2 ^ 32 → LocationFits a → PieceFits (piece_of index from len a)
unfolding piece_of
piece_fits index from len Hole g h k f =
    record { mark = omega arith; index = g; place = h; id = omega arith; block = omega arith; length = omega arith; at = omega arith; len = k }
piece_fits index from len (In i b l a) g h k f =
    record { mark = omega arith; index = g; place = h; id = f.0; block = f.1; length = f.2; at = f.3; len = k }

cut_within : (l start count : ℕ) → cut_to l start count ≤ l
unfolding cut_to
cut_within l start count = omega arith

-- the runs of a division of places, in a read in which `before` places stand before them
runs_fit : (index before : ℕ) → index < 2 ^ 32 → (f : ℕ → Location) → ((p : ℕ) → LocationFits (f p)) → (at end : ℕ) → before + end < 2 ^ 32 → (xs : List (Run Location))
    → Valid next_location f at end xs → All RunFits (map (in_chunk index before) xs)
unfolding in_chunk
runs_fit index before g f has at end l [] v = tt
runs_fit index before g f has at end l (r ∷ xs) v =
    let e = valid_le next_location f (at + r.len) end xs v.2 in (
      piece_fits index (before + r.start) r.len r.first g (omega (arith, v.0.starts)) (omega arith) (rw v.0.first_is (has at)),
      runs_fit index before g f has (at + r.len) end l xs v.2,
    )

module _ (B : ℕ) (rs : List Record) (p : All Passes rs) (f : All Fits rs) (index : ℕ) (g : index < 2 ^ 32) where
  from_fits : (start i : ℕ) → LocationFits (location_from B rs start i)
  unfolding location_from location_at
  from_fits start i = location_fits B (cover rs (start + i)) (cover_real rs p (start + i)) (cover_id rs f (start + i))

  pub pieces_fit : (before start n : ℕ) → before + n < 2 ^ 32 → All RunFits (map (in_chunk index before) (pieces B rs start n))
  pieces_fit before start n h = runs_fit index before g (location_from B rs start) (from_fits start) 0 n h (pieces B rs start n) (pieces_divide B rs start n)

  pub plan_fits : (l start count : ℕ) → l ≤ chunk → All RunFits (map (in_chunk index 0) (read_plan B rs l start count))
  unfolding read_plan chunk
  plan_fits l start count h = pieces_fit 0 start (cut_to l start count) (omega (arith, cut_within l start count))
