-- Redis chunk keys: reading is the inverse of writing. Assumes nothing.
use Prim.Native.Nat.{ℕ, ◌≤◌, ◌<◌}
use native.Mathlib.Omega.{arith}
use mathlib.Core.Path.{◌≡◌, refl}
use mathlib.Core.Bool.{true, false, and-eq-true_iff}
use mathlib.Core.Logic.{◌↔◌}
use mathlib.Core.List.{List, [], ◌∷◌, append-nil}
use borrow.Author.Tests.{le-leb, lt-leb, leb-true}
use lib.Dec.{leb}
use lib.ListN.{length, length-append}
use Rattle.codec.specs.Decimal.{decimal, digit_of}
use Rattle.outcomes.specs.Numbers.{not_of_form}
use Rattle.outcomes.specs.Outcome.{refused, done, refusal}
use Rattle.texts.specs.Limits.{max_number}
use Rattle.slices.specs.Limits.{max_index}
use Rattle.texts.specs.Parts.{write}
use Rattle.texts.specs.Calls.{WriterRefuses}
use Rattle.texts.specs.Inverse.{Inverse, Any}
use Rattle.keys.specs.Keys.{Chunk, chunk, chunk_allowed, redis_key, redis_form, chunk_of, read_redis, write_redis}
use Rattle.keys.specs.Inner.{redis_length}
use Rattle.texts.proofs.Laws.Parts.{apart, ends, Allowed, allowed, allowing}
use Rattle.texts.proofs.Laws.Shows.{Shows, shows_inverse}
use Rattle.texts.proofs.Laws.Calls.{writer_refuses}
use Rattle.texts.proofs.Laws.Inverse as inverse

-- ---- which chunks have a key

pub record InRange (i j : ℕ) : Type 0 where
  pub inode : i ≤ max_number
  pub index : j ≤ max_index

pub in_range : (i j : ℕ) → chunk_allowed i j ≡ true → InRange i j
unfolding chunk_allowed
in_range i j w =
    let b = (and-eq-true_iff (leb i max_number) (leb j max_index)).0 w in
    record { inode = leb-true _ _ b.0; index = leb-true _ _ b.1 }

pub chunk_allowed_lem : (i j : ℕ) → InRange i j → chunk_allowed i j ≡ true
unfolding chunk_allowed
chunk_allowed_lem i j r = simp (le-leb i max_number r.inode, le-leb j max_index r.index)

pub chunk_large : (i j : ℕ) → i ≤ max_number → max_index < j → chunk_allowed i j ≡ false
unfolding chunk_allowed
chunk_large i j k h = simp (le-leb i max_number k, lt-leb j max_index h)

-- ---- its length

pub redis_length_lem : (inode index : ℕ) → length (redis_key inode index) ≡ redis_length (length (decimal inode)) (length (decimal index))
unfolding redis_key
redis_length_lem inode index = simp length-append (omega arith)

-- ---- the form

abbrev shown : Chunk → List ℕ
shown c = c.inode ∷ c.index ∷ []

redis_text : (c : Chunk) → redis_key c.inode c.index ≡ write redis_form (shown c)
unfolding redis_key write
redis_text c = rw append-nil

redis_shows : Shows redis_form (λ c. chunk_allowed c.inode c.index) shown chunk_of
unfolding apart ends digit_of Allowed
redis_shows =
    record {
      parts = refl;
      again = λ c. refl;
      taken = λ c a. let r = in_range c.inode c.index a in allowing redis_form [] (shown c) (omega arith);
      right = λ ns w. two ns (allowed redis_form [] ns w);
    }
  where
    two : (ns : List ℕ) → Allowed redis_form [] ns → (shown (chunk_of ns) ≡ ns) × (chunk_allowed (chunk_of ns).inode (chunk_of ns).index ≡ true)
    two [] w = absurd w
    two (a ∷ []) w = absurd w.2
    two (a ∷ b ∷ []) w = (refl, chunk_allowed_lem a b (record { inode = omega arith; index = omega arith }))
    two (a ∷ b ∷ c ∷ ns) w = absurd w.2.2

-- ---- the theorems

pub redis_key_lem : Inverse Any (λ c. chunk_allowed c.inode c.index) (λ c. redis_key c.inode c.index) read_redis
unfolding read_redis
redis_key_lem = shows_inverse redis_shows (λ c. redis_key c.inode c.index) redis_text

-- writing then reading gives the numbers back
pub redis_key_back : (inode index : ℕ) → chunk_allowed inode index ≡ true → read_redis (redis_key inode index) ≡ done (chunk inode index)
redis_key_back inode index a = redis_key_lem.back (chunk inode index) a

-- an accepted text is exactly the written one, and its numbers are allowed
pub redis_key_forth : (t : List ℕ) (inode index : ℕ) → read_redis t ≡ done (chunk inode index) → (t ≡ redis_key inode index) × (chunk_allowed inode index ≡ true)
redis_key_forth t inode index r = redis_key_lem.forth t tt (chunk inode index) r

-- two chunks never share a key
pub redis_key_distinct : (c d : Chunk) → chunk_allowed c.inode c.index ≡ true → chunk_allowed d.inode d.index ≡ true
    → redis_key c.inode c.index ≡ redis_key d.inode d.index → c ≡ d
redis_key_distinct = inverse.distinct redis_key_lem

-- reading gives 13 exactly where no chunk has that key
pub redis_key_refused_exactly : (t : List ℕ)
    → (read_redis t ≡ refused (refusal not_of_form 0)) ↔ ((c : Chunk) → chunk_allowed c.inode c.index ≡ true → t ≡ redis_key c.inode c.index → ⊥)
redis_key_refused_exactly t = inverse.refused_exactly redis_key_lem t tt

-- writing gives 13 exactly where the numbers are not allowed, else 12 exactly where the buffer is too short
pub write_redis_refused_exactly : (inode index : ℕ) → WriterRefuses (write_redis inode index) (chunk_allowed inode index) (redis_key inode index)
write_redis_refused_exactly inode index = writer_refuses (chunk_allowed inode index) (redis_key inode index)
