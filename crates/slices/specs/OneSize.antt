-- "A slice number is globally unique, so one number with two sizes in a list means damage" (paper 02, L8): the lists without it. Id 0 is no slice's.
-- Assumes nothing.
use Rattle.std.specs.Prelude.{◌≡◌, ◌≢◌, List}
use Rattle.codec.specs.All.{All}
use Rattle.slices.specs.declared.Record.{Record}

-- two records: where they have one id, not 0, they have one size
abbrev pub Agree : Record → Record → Type 0
Agree r e = r.id ≢ 0 → e.id ≡ r.id → e.size ≡ r.size

-- a list: any two of its records agree, also empty ones
abbrev pub OneSize : List Record → Type 0
OneSize rs = All (λ (r : Record). All (Agree r) rs) rs
