-- Where the piece ends that starts at a position, by what a scan found there. Assumes nothing.
use Prim.Native.Nat.{ℕ, ◌+◌, ◌-◌, ◌<◌, ◌≤◌}
use native.Mathlib.Omega.{arith}
use native.Mathlib.Nat.{le_refl}
use mathlib.Core.Path.{◌≡◌, ap, ◌∙◌}
use mathlib.Core.List.{List}
use Rattle.resolve.specs.Resolved.{OnTop}
use Rattle.slices.specs.Record.{count}
use Rattle.scanning.specs.Scan.{Scans, Clear}
use Rattle.runs.specs.Inner.{Unbroken, Leads}
use Rattle.plans.specs.Location.{location_at, next_location}
use Rattle.plans.specs.Piece.{piece_of}
use Rattle.plans.proofs.Laws.Tops.{top_within}
use Rattle.stepping.specs.Inner.{PieceFrom}
use Rattle.stepping.proofs.Laws.Pieces.{len_of}
use Rattle.slices.specs.declared.Record.{Record}
use Rattle.scanning.specs.declared.Scanned.{Scanned}
use Rattle.plans.specs.declared.Location.{Location}
use Rattle.plans.specs.declared.Piece.{Piece}

-- ---- what a scan found

module _ (bs : List ℕ) (p end : ℕ) (s : Scanned) (h : Scans bs p end s) where
  pub top_here : OnTop bs s.top p (p + 1)
  top_here = top_within bs s.top p s.end h.here p (p + 1) (le_refl p) (omega (arith, h.some))

  pub below_there : (e : ℕ) → e ≤ s.end → s.end ≤ e → e < end → (s.before ≤ count bs) × Clear bs s.before (count bs) e
  below_there e l m k =
      let z : s.end ≡ e = omega arith in
      rw z at (h.there (omega arith))

  -- what goes on up to the scan's end does so among all positions
  pub scan_unbroken : (B : ℕ) (rs : List Record) (e : ℕ) → Unbroken next_location (location_at B rs) p s.end e → Unbroken next_location (location_at B rs) p end e
  scan_unbroken B rs e u = record { some = u.some; inside = omega (arith, u.inside, h.inside); joins = u.joins }

-- ---- the piece

-- by its end, and by where its first byte lies
pub piece_from : (B : ℕ) (rs : List Record) (index place p end e : ℕ) {first : Location} {piece : Piece} → first ≡ location_at B rs p
    → Leads next_location (location_at B rs) p end (location_at B rs p) e → piece ≡ piece_of index place (e - p) first → PieceFrom B rs index place p end piece
piece_from B rs index place p end e {first} {piece} f l h =
    let n : piece.len ≡ e - p = ap (λ (x : Piece). x.len) h ∙ len_of index place (e - p) first in
    let z : p + piece.len ≡ e = omega (arith, l.some) in
    let same : piece_of index place (e - p) first ≡ piece_of index place piece.len (location_at B rs p) = rw (n, f) in
    record { is = h ∙ same; leads = rw z l }
