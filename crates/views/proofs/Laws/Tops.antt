-- A run by the record on top of its first position: when it goes on, whether it is written, and its bytes. Assumes nothing.
use Prim.Native.Nat.{ℕ, zero, suc, ◌+◌, ◌-◌, ◌≤◌}
use native.Mathlib.Omega.{arith}
use native.Mathlib.Decide.{ℕ_discrete}
use mathlib.Core.Path.{◌≡◌, refl, sym, ap, ◌∙◌}
use mathlib.Core.Bool.{Bool, true, false, ◌&&◌, false≢true}
use mathlib.Core.Logic.{◌≢◌}
use mathlib.Core.List.{List, ◌++◌, append_assoc}
use lib.Dec.{eqb}
use lib.ListN.{length, length-append}
use borrow.Author.Tests.{eqb-true}
use Rattle.codec.specs.Fixed.{big_endian}
use Rattle.codec.specs.Splice.{splice}
use Rattle.codec.proofs.Laws.Fixed.{length-big_endian}
use Rattle.codec.proofs.Laws.Splice.{splices_4, splice_before}
use Rattle.slices.specs.Cover.{cover, given, is_nothing}
use Rattle.slices.specs.Limits.{record_size}
use Rattle.slices.specs.Record.{record_at, records, encode}
use Rattle.slices.proofs.Laws.Cover.{given-zero, given_byte}
use Rattle.slices.specs.declared.Record.{Record}
use Rattle.slices.specs.declared.Source.{Source}
use Rattle.slices.specs.declared.Source.TheVariants.{Nothing, Zero, Byte}
use Rattle.resolve.specs.Resolved.{source_of, OnTop}
use Rattle.views.specs.View.{next, as_record}
use Rattle.resolve.specs.Tops.{id_on, size_at, off_at}
use Rattle.resolve.proofs.Laws.Tops.{id_of, id_cover, size_zero, size_byte, off_zero, off_byte}
use Rattle.views.specs.Inner.{shift, wanted, shown, head}
use Rattle.codec.proofs.Laws.Bools.{and_both}

-- ---- sources with different ids don't join

next_ids : (a b : Source) (k : ℕ) → next (shift a k) b ≡ true → id_of a ≡ id_of b
unfolding next shift id_of
next_ids Nothing Nothing k h = refl
next_ids Nothing Zero k h = refl
next_ids Nothing (Byte j t p) k h = absurd (false≢true h)
next_ids Zero Nothing k h = refl
next_ids Zero Zero k h = refl
next_ids Zero (Byte j t p) k h = absurd (false≢true h)
next_ids (Byte i s o) Nothing k h = absurd (false≢true h)
next_ids (Byte i s o) Zero k h = absurd (false≢true h)
next_ids (Byte i s o) (Byte j t p) k h = eqb-true i j (and_both (eqb i j) (eqb s t && eqb p (o + k + 1)) h).0

pub ids_part : (bs : List ℕ) (a p b e k : ℕ) → OnTop bs a p (p + 1) → OnTop bs b e (e + 1) → id_on bs b ≢ id_on bs a
    → next (shift (cover (records bs) p) k) (cover (records bs) e) ≡ false
ids_part bs a p b e k s t n = go (next (shift (cover (records bs) p) k) (cover (records bs) e)) refl
  where
    go : (x : Bool) → next (shift (cover (records bs) p) k) (cover (records bs) e) ≡ x → x ≡ false
    go true h = absurd (n (sym (id_cover bs b e t) ∙ sym (next_ids (cover (records bs) p) (cover (records bs) e) k h) ∙ id_cover bs a p s))
    go false h = refl

-- ---- whether a run is written

wanted_given : (r : Record) (p : ℕ) → Dec (r.id ≡ 0) → wanted false (given r p) ≡ true
unfolding wanted is_nothing
wanted_given r p (yes z) = rw (given-zero r p z)
wanted_given r p (no z) = rw (given_byte r p z)

shown_source : (all : Bool) (bs : List ℕ) (top p : ℕ) → shown all top ≡ wanted all (source_of bs top p)
unfolding shown wanted source_of is_nothing
shown_source true bs top p = refl
shown_source false bs zero p = refl
shown_source false bs (suc i) p = sym (wanted_given (record_at bs i) p (ℕ_discrete (record_at bs i).id 0))

pub shown_wanted : (all : Bool) (bs : List ℕ) (top p : ℕ) → OnTop bs top p (p + 1) → shown all top ≡ wanted all (cover (records bs) p)
shown_wanted all bs top p t = shown_source all bs top p ∙ ap (wanted all) (sym (t.cover_is p (omega arith) (omega arith)))

-- ---- a run's bytes

length-head : (p i s o : ℕ) → length (head p i s o) ≡ 20
unfolding head
length-head p i s o = simp (length-append, length-big_endian)

whole : (p i s o n : ℕ) → head p i s o ++ big_endian 4 n ≡ encode (record { pos = p; id = i; size = s; off = o; len = n })
unfolding head encode
whole p i s o n = simp append_assoc

hole_bytes : (p n : ℕ) → head p 0 n 0 ++ big_endian 4 n ≡ encode (as_record p n Nothing)
unfolding as_record
hole_bytes p n = whole p 0 n 0 n

given_bytes : (r : Record) (p n : ℕ) → Dec (r.id ≡ 0) → head p r.id (size_at r) (off_at r p) ++ big_endian 4 n ≡ encode (as_record p n (given r p))
unfolding as_record
given_bytes r p n (yes z) = rw (given-zero r p z, off_zero r p z, size_zero r z, z) (whole p 0 0 0 n)
given_bytes r p n (no z) = rw (given_byte r p z, off_byte r p z, size_byte r z) (whole p r.id r.size (r.off + (p - r.pos)) n)

-- the four fields, put one after the other
pub head_put : (out : List ℕ) (at : ℕ) {o₁ o₂ o₃ o₄ : List ℕ} (p i s o i' s' o' : ℕ) → at + record_size ≤ length out
    → o₁ ≡ splice out at (big_endian 4 p) → i ≡ i' → o₂ ≡ splice o₁ (at + 4) (big_endian 8 i) → s ≡ s' → o₃ ≡ splice o₂ (at + 12) (big_endian 4 s)
    → o ≡ o' → o₄ ≡ splice o₃ (at + 16) (big_endian 4 o) → o₄ ≡ splice out at (head p i' s' o')
unfolding head
head_put out at p i s o i' s' o' h e₁ hi e₂ hs e₃ ho e₄ =
    rw (← hi, ← hs, ← ho)
    (splices_4 out at (big_endian 4 p) (big_endian 8 i) (big_endian 4 s) (big_endian 4 o) 4 12 16
    (length-big_endian 4 p) (ap (λ (k : ℕ). 4 + k) (length-big_endian 8 i)) (ap (λ (k : ℕ). 12 + k) (length-big_endian 4 s)) (omega arith) e₁ e₂ e₃ e₄)

module _ (out o₁ o₂ : List ℕ) (at p n : ℕ) (h : at + record_size ≤ length out) (e₁ : o₁ ≡ splice out (at + 20) (big_endian 4 n)) where
  both : (i s o : ℕ) → o₂ ≡ splice o₁ at (head p i s o) → o₂ ≡ splice out at (head p i s o ++ big_endian 4 n)
  both i s o e₂ =
      let l : at + 20 + length (big_endian 4 n) ≤ length out = rw (length-big_endian 4 n) (omega arith) in
      e₂ ∙ ap (λ (x : List ℕ). splice x at (head p i s o)) e₁ ∙ splice_before out at (head p i s o) (big_endian 4 n) 20 (length-head p i s o) l

  pub hole_put : o₂ ≡ splice o₁ at (head p 0 n 0) → (a : Source) → a ≡ Nothing → o₂ ≡ splice out at (encode (as_record p n a))
  hole_put e₂ a z = both 0 n 0 e₂ ∙ ap (splice out at) (hole_bytes p n ∙ ap (λ (x : Source). encode (as_record p n x)) (sym z))

  pub given_put : (r : Record) → o₂ ≡ splice o₁ at (head p r.id (size_at r) (off_at r p)) → (a : Source) → a ≡ given r p → o₂ ≡ splice out at (encode (as_record p n a))
  given_put r e₂ a z =
      both r.id (size_at r) (off_at r p) e₂
      ∙ ap (splice out at) (given_bytes r p n (ℕ_discrete r.id 0) ∙ ap (λ (x : Source). encode (as_record p n x)) (sym z))
