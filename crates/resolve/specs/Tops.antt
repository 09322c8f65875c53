-- What the record on top of a position gives to it, by its number counted from 1; 0 says that there is none. Assumes nothing.
use Rattle.std.specs.Prelude.{ℕ, zero, suc, ◌+◌, ◌-◌, cond, List, eqb}
use Rattle.slices.specs.Record.{record_at}
use Rattle.slices.specs.declared.Record.{Record}

-- the id of that record
unfoldable pub id_on : List ℕ → ℕ → ℕ
id_on bs zero = 0
id_on bs (suc i) = (record_at bs i).id

-- the size that a record gives to the positions that it covers; 0 where it covers them with zeros
unfoldable pub size_at : Record → ℕ
size_at r = cond (eqb r.id 0) 0 r.size

-- the slice offset that a record gives to a position p that it covers; 0 where it covers it with zeros
unfoldable pub off_at : Record → ℕ → ℕ
off_at r p = cond (eqb r.id 0) 0 (r.off + (p - r.pos))
