-- Where list k stands in the bytes of all lists. Assumes nothing.
use Prim.Native.Nat.{ℕ, ◌+◌, ◌-◌, ◌*◌, ◌/◌, ◌%◌, ◌<◌, ◌≤◌}
use native.Mathlib.Omega.{arith}
use mathlib.Core.Path.{◌≡◌, sym}
use mathlib.Core.List.{List, []}
use lib.ListN.{length, take, drop, get_or}
use Rattle.codec.specs.All.{All}
use Rattle.slices.specs.Accepts.{Accepts}
use Rattle.slices.specs.Limits.{chunk}
use Rattle.slices.specs.Record.{records}
use Rattle.joined.specs.Lists.{total, parts}
use Rattle.joined.proofs.Laws.Lists.{Gone, gone_within, parts-length}
use Rattle.joined.proofs.Laws.Numbered.{gone_list, all_at}
use Rattle.stepping.specs.Inner.{PieceFrom, Behind}
use Rattle.files.specs.File.{part_from, part_end}
use Rattle.plans.specs.declared.Piece.{Piece}

-- where k lists are gone by, the next stands
pub gone_behind : (ns bs : List ℕ) (at k : ℕ) → total ns ≡ length bs → Gone ns bs at k → k < length ns → Behind bs ns k at
gone_behind ns bs at k h g l = record { within = gone_within ns bs at k g l; is = gone_list ns bs at k h g l }

-- ---- the list of one number

-- it stands from `at` up to `to`
module _ (bs ns : List ℕ) (k at to : ℕ) (b : Behind bs ns k at) (e : to ≡ at + get_or ns k 0) where
  pub list_here_lem : take (to - at) (drop at bs) ≡ get_or (parts ns bs) k []
  list_here_lem =
      let z : to - at ≡ get_or ns k 0 = omega arith in
      rw z (sym b.is)

  pub here_accepted : k < length ns → All Accepts (parts ns bs) → Accepts (take (to - at) (drop at bs))
  here_accepted l a = rw list_here_lem (all_at Accepts (parts ns bs) k [] a (omega (arith, parts-length ns bs)))

-- ---- the list of a position

-- there is one for each position before `end`
pub chunk_within : (p end n : ℕ) → p < end → end ≤ n * chunk → p / chunk < n
unfolding chunk
chunk_within p end n l h = omega arith

module _ (p end : ℕ) {from stop : ℕ} (f : from ≡ part_from p (p / chunk)) (g : stop ≡ part_end end (p / chunk)) where
  from_rest : from ≡ p % chunk
  unfolding part_from chunk
  from_rest = omega (arith, f)

  -- its part of the positions up to `end` has this one, and is no longer than a chunk
  pub part_some : p < end → from < stop
  unfolding part_from part_end chunk
  part_some l = omega (arith, f, g)

  pub part_short : stop ≤ chunk
  unfolding part_end chunk
  part_short = omega (arith, g)

  pub piece_there : (B first place : ℕ) (ls : List (List ℕ)) {l : List ℕ} {piece : Piece} → l ≡ get_or ls (p / chunk) []
      → PieceFrom B (records l) (first + p / chunk) place from stop piece
      → PieceFrom B (records (get_or ls (p / chunk) [])) (first + p / chunk) place (p % chunk) (part_end end (p / chunk)) piece
  piece_there B first place ls e h = rw (← e, ← from_rest, ← g) h
