-- The cover of a list of slice records: where each byte of the chunk comes from (paper 01, "A record and its meaning").
-- No limit on the length of a list. Assumes nothing.
use Rattle.std.specs.Prelude.{ℕ, ◌+◌, ◌-◌, ◌<◌, ◌≡◌, Bool, true, false, ◌&&◌, cond, List, [], ◌∷◌, leb, ltb, eqb}
use Rattle.slices.specs.Limits.{chunk}
use Rattle.slices.specs.declared.Record.{Record}
use Rattle.slices.specs.declared.Source.{Source}
use Rattle.slices.specs.declared.Source.TheVariants.{Nothing, Zero, Byte}

-- a record covers the positions from pos up to, but without, pos + len
unfoldable pub covers : Record → ℕ → Bool
covers r p = leb r.pos p && ltb p (r.pos + r.len)

-- the source that a record gives to a position p that it covers: a zero for id 0, otherwise (id, size, off + p - pos)
unfoldable pub given : Record → ℕ → Source
given r p = cond (eqb r.id 0) Zero (Byte r.id r.size (r.off + (p - r.pos)))

-- one record's cover
unfoldable pub layer : Record → ℕ → Source
unfolding covers given
layer r p = cond (covers r p) (given r p) Nothing

-- laid over: the upper source where there is one, else the lower
unfoldable pub over : Source → Source → Source
over Nothing lower = lower
over Zero lower = Zero
over (Byte id size off) lower = Byte id size off

-- the last record of a list that covers a position gives its source; where none does, the source is nothing
unfoldable pub cover : List Record → ℕ → Source
unfolding over layer
cover [] p = Nothing
cover (r ∷ rs) p = over (cover rs p) (layer r p)

-- whether a source is nothing
unfoldable pub is_nothing : Source → Bool
is_nothing Nothing = true
is_nothing Zero = false
is_nothing (Byte i s o) = false

-- "Two covers are the same when they give the same source at each of the 67,108,864 positions."
abbrev pub SameCover : List Record → List Record → Type 0
SameCover xs ys = (p : ℕ) → p < chunk → cover xs p ≡ cover ys p
