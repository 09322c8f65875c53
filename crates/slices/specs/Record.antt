-- A slice record as bytes: pos (4), id (8), size (4), off (4), len (4), integers big-endian. proofs/Laws/Record.antt has the round trips.
-- Assumes nothing.
use Rattle.std.specs.Prelude.{ℕ, ◌+◌, ◌*◌, ◌/◌, ◌^◌, ◌<◌, length}
use mathlib.Core.List.{List, ◌++◌, flat_map}
use Rattle.codec.specs.Fixed.{big_endian, number_at}
use Rattle.codec.specs.Groups.{groups_from}
use Rattle.slices.specs.Limits.{record_size}
use Rattle.slices.specs.declared.Record.{Record}

-- ---- written

-- a record's 24 bytes
unfoldable pub encode : Record → List ℕ
encode r = big_endian 4 r.pos ++ (big_endian 8 r.id ++ (big_endian 4 r.size ++ (big_endian 4 r.off ++ big_endian 4 r.len)))

-- the records of a list, one after the other
unfoldable pub encode_all : List Record → List ℕ
encode_all rs = flat_map encode rs

-- ---- read

-- the record whose bytes start at `at`
unfoldable pub decode : List ℕ → ℕ → Record
decode bs at =
    record {
      pos = number_at bs at 4;
      id = number_at bs (at + 4) 8;
      size = number_at bs (at + 12) 4;
      off = number_at bs (at + 16) 4;
      len = number_at bs (at + 20) 4;
    }

-- record i of a list
unfoldable pub record_at : List ℕ → ℕ → Record
record_at bs i = decode bs (i * record_size)

-- n records of a list, from record i on
unfoldable pub records_from : List ℕ → ℕ → ℕ → List Record
records_from bs i n = groups_from decode record_size bs i n

-- how many whole records a list has
unfoldable pub count : List ℕ → ℕ
count bs = length bs / record_size

-- the records of a list
unfoldable pub records : List ℕ → List Record
records bs = records_from bs 0 (count bs)

-- ---- a record that 24 bytes can hold

pub record Fits (r : Record) : Type 0 where
  pub pos : r.pos < 2 ^ 32
  pub id : r.id < 2 ^ 64
  pub size : r.size < 2 ^ 32
  pub off : r.off < 2 ^ 32
  pub len : r.len < 2 ^ 32
