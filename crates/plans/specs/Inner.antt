-- Inner: what the steps of the code find. It serves the contracts of inner functions alone. Assumes nothing.
use Rattle.std.specs.Prelude.{ℕ, ◌+◌, ◌-◌, ◌/◌, ◌%◌, ◌^◌, ◌<◌, ◌≤◌, ◌≡◌, List, ◌++◌, map}
use Rattle.codec.specs.Fixed.{big_endian}
use Rattle.views.specs.Inner.{shift}
use Rattle.plans.specs.Location.{Site, location, location_at, next_location, onward}
use Rattle.plans.specs.Plan.{cut_to}
use Rattle.slices.specs.declared.Record.{Record}
use Rattle.slices.specs.declared.Source.{Source}
use Rattle.slices.specs.declared.Source.TheVariants.{Nothing, Zero, Byte}
use Rattle.runs.specs.Runs.{Run, runs}
use Rattle.runs.specs.Inner.{earlier}
use Rattle.plans.specs.declared.Location.{Location}
use Rattle.plans.specs.declared.Location.TheVariants.{Hole, In}
use Rattle.plans.specs.Piece.{object_mark, zeros_mark, in_chunk, chunk_bytes}

-- a byte of a slice lies inside it
abbrev pub Inside : Source → Type 0
Inside Nothing = Unit {0}
Inside Zero = Unit {0}
Inside (Byte i s o) = o < s

-- r of the d positions from the source a on in its run lie in one block with it
pub record InBlock (B : ℕ) (a : Source) (d r : ℕ) : Type 0 where
  pub some : 0 < r
  pub most : r ≤ d
  pub onwards : (k : ℕ) → k < r → location B (shift a k) ≡ onward (location B a) k

-- a block of B bytes has 2 ^ bits
pub record Shifts (B bits : ℕ) : Type 0 where
  pub power : B ≡ 2 ^ bits
  pub few : bits < 32

-- the slice offset that a record with a slice gives to a position
abbrev pub offset_in : Record → ℕ → ℕ
offset_in r p = r.off + (p - r.pos)

-- where in the store a piece lies, as bytes: its object, and the place in the block
unfoldable pub object_bytes : Location → List ℕ
object_bytes Hole = big_endian 8 0 ++ (big_endian 4 0 ++ (big_endian 4 0 ++ big_endian 4 0))
object_bytes (In i b l a) = big_endian 8 i ++ (big_endian 4 b ++ (big_endian 4 l ++ big_endian 4 a))

-- the mark of a piece, by where it lies
unfoldable pub mark_of : Location → ℕ
mark_of Hole = zeros_mark
mark_of (In i b l a) = object_mark

-- the bytes of a chunk's runs, where the chunk's index and the places before it are the halves of a number of 8 bytes
abbrev pub front_bytes : ℕ → List (Run Location) → List ℕ
front_bytes front rs = chunk_bytes (front / 2 ^ 32) (front % 2 ^ 32) rs

-- of the plan of the positions from `from` up to `end`, the runs from position p on
unfoldable pub pieces_left : ℕ → List Record → (front from end p : ℕ) → List (Run Site)
pieces_left B rs front from end p = map (in_chunk (front / 2 ^ 32) (front % 2 ^ 32)) (map (earlier from) (runs next_location (location_at B rs) p (end - p)))

-- a read of `count` bytes from `start`, for a chunk of l bytes, goes from `from` up to `end`
pub record Cut (l start count from end : ℕ) : Type 0 where
  pub order : from ≤ end
  pub within : end ≤ l
  pub size : end - from ≡ cut_to l start count
  pub starts : from < end → from ≡ start
