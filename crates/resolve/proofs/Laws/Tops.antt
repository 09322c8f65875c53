-- What the record on top of a position gives to it: its id, and the slice offset. Assumes nothing.
use Prim.Native.Nat.{ℕ, zero, suc, ◌+◌, ◌-◌, ◌≤◌, ◌<◌, ◌^◌}
use native.Mathlib.Omega.{arith}
use native.Mathlib.Decide.{ℕ_discrete}
use mathlib.Core.Path.{◌≡◌, refl, sym, ap, ◌∙◌}
use mathlib.Core.Logic.{◌≢◌}
use mathlib.Core.List.{List}
use borrow.Author.Tests.{eq-eqb, ne_eqb}
use Rattle.slices.specs.Cover.{cover, given}
use Rattle.slices.specs.Limits.{chunk}
use Rattle.slices.specs.Passes.{Passes}
use Rattle.slices.specs.Record.{record_at, records}
use Rattle.slices.proofs.Laws.Cover.{given-zero, given_byte}
use Rattle.slices.specs.declared.Record.{Record}
use Rattle.slices.specs.declared.Source.{Source}
use Rattle.slices.specs.declared.Source.TheVariants.{Nothing, Zero, Byte}
use Rattle.resolve.specs.Resolved.{source_of, OnTop}
use Rattle.resolve.specs.Tops.{id_on, size_at, off_at}

-- ---- its id

-- the id of a source; 0 where it has none
unfoldable pub id_of : Source → ℕ
id_of Nothing = 0
id_of Zero = 0
id_of (Byte i s o) = i

id_given : (r : Record) (p : ℕ) → Dec (r.id ≡ 0) → id_of (given r p) ≡ r.id
unfolding id_of
id_given r p (yes z) = rw (given-zero r p z) (sym z)
id_given r p (no z) = rw (given_byte r p z)

id_source : (bs : List ℕ) (top p : ℕ) → id_of (source_of bs top p) ≡ id_on bs top
unfolding source_of id_of id_on
id_source bs zero p = refl
id_source bs (suc i) p = id_given (record_at bs i) p (ℕ_discrete (record_at bs i).id 0)

pub id_cover : (bs : List ℕ) (top p : ℕ) → OnTop bs top p (p + 1) → id_of (cover (records bs) p) ≡ id_on bs top
id_cover bs top p t = ap id_of (t.cover_is p (omega arith) (omega arith)) ∙ id_source bs top p

-- ---- the size, and the slice offset

pub size_zero : (r : Record) → r.id ≡ 0 → size_at r ≡ 0
unfolding size_at
size_zero r e = rw (eq-eqb r.id 0 e)

pub size_byte : (r : Record) → r.id ≢ 0 → size_at r ≡ r.size
unfolding size_at
size_byte r e = rw (ne_eqb r.id 0 e)

-- it fits into 32 bits, also where it is not asked for
pub off_fits : (r : Record) → Passes r → (p : ℕ) → r.pos ≤ p → p < r.pos + r.len → r.off + (p - r.pos) < 2 ^ 32
unfolding chunk
off_fits r h p a b = go (ℕ_discrete r.id 0)
  where
    go : Dec (r.id ≡ 0) → r.off + (p - r.pos) < 2 ^ 32
    go (yes z) = omega (arith, (h.zeros z).0, h.inside)
    go (no z) = omega (arith, h.within z, h.sized)

pub off_zero : (r : Record) (p : ℕ) → r.id ≡ 0 → off_at r p ≡ 0
unfolding off_at
off_zero r p e = rw (eq-eqb r.id 0 e)

pub off_byte : (r : Record) (p : ℕ) → r.id ≢ 0 → off_at r p ≡ r.off + (p - r.pos)
unfolding off_at
off_byte r p e = rw (ne_eqb r.id 0 e)
