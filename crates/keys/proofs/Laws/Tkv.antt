-- TKV chunk keys: reading is the inverse of writing. Assumes nothing.
use Prim.Native.Nat.{ℕ, ◌+◌, ◌<◌, ◌^◌}
use native.Mathlib.Omega.{arith}
use mathlib.Core.Path.{◌≡◌, refl, sym, ap, ◌∙◌}
use mathlib.Core.Bool.{Bool, true, false, ◌&&◌, and-eq-true_iff}
use mathlib.Core.Logic.{◌↔◌}
use mathlib.Core.List.{List, [], ◌∷◌, ◌++◌, append-nil, append_assoc}
use borrow.Author.Tests.{eqb-true, eq-eqb}
use lib.Dec.{eqb}
use lib.ListN.{length, get_or, take, drop, length-append, length-drop, take-append-drop}
use lib.Seq.{get_or_at, drop-cons, drop-drop, take_all}
use Rattle.codec.specs.All.{Bytes}
use Rattle.codec.specs.Fixed.{big_endian, number_at}
use Rattle.codec.specs.Little.{little_endian, little_at}
use Rattle.codec.proofs.Laws.Fixed.{length-big_endian, number_at_behind, number_at_bound, number_back, number_forth}
use Rattle.codec.proofs.Laws.Little.{length-little_endian, little_at_bound, little_back, little_forth}
use Rattle.outcomes.specs.Numbers.{not_of_form}
use Rattle.outcomes.specs.Outcome.{refused, done, refusal, first_of}
use Rattle.outcomes.specs.Outcome.{Refusal}
use Rattle.keys.specs.Limits.{tkv_size}
use Rattle.texts.specs.Inverse.{Inverse}
use Rattle.keys.specs.Keys.{Chunk, chunk, chunk_allowed, tkv_key, tkv_shape, read_tkv, write_tkv}
use Rattle.keys.proofs.Laws.Keys.{in_range, chunk_allowed_lem}
use Rattle.texts.specs.Calls.{WriterRefuses}
use Rattle.texts.proofs.Laws.Calls.{writer_refuses}
use Rattle.texts.proofs.Laws.Inverse as inverse

-- ---- the numbers of a key

inode_back : (i j : ℕ) → i < 2 ^ 64 → little_at (tkv_key i j) 1 8 ≡ i
unfolding tkv_key
inode_back i j h = little_back (65 ∷ []) 8 i (67 ∷ big_endian 4 j) h

index_back : (i j : ℕ) → j < 2 ^ 32 → number_at (tkv_key i j) 10 4 ≡ j
unfolding tkv_key
index_back i j h =
    let front : List ℕ = 65 ∷ (little_endian 8 i ++ (67 ∷ [])) in
    let n : length front ≡ 10 = simp (length-append, length-little_endian 8 i) in
    let e : 65 ∷ (little_endian 8 i ++ (67 ∷ big_endian 4 j)) ≡ front ++ big_endian 4 j = ap (λ (l : List ℕ). 65 ∷ l) (sym (append_assoc (little_endian 8 i) (67 ∷ []) (big_endian 4 j))) in
    let b : number_at (front ++ big_endian 4 j) (length front + 0) 4 ≡ number_at (big_endian 4 j) 0 4 = number_at_behind front (big_endian 4 j) 0 4 in
    let w : number_at (big_endian 4 j ++ []) 0 4 ≡ j = number_back 4 j [] h in
    rw e (rw n at b ∙ (rw append-nil at w))

-- ---- the shape of a key

pub record Shaped (key : List ℕ) : Type 0 where
  pub size : length key ≡ tkv_size
  pub first : get_or key 0 0 ≡ 65
  pub second : get_or key 9 0 ≡ 67

pub shaped : (key : List ℕ) → tkv_shape key ≡ true → Shaped key
unfolding tkv_shape
shaped key s =
    let a = (and-eq-true_iff (eqb (length key) tkv_size) (eqb (get_or key 0 0) 65 && eqb (get_or key 9 0) 67)).0 s in
    let b = (and-eq-true_iff (eqb (get_or key 0 0) 65) (eqb (get_or key 9 0) 67)).0 a.1 in
    record { size = eqb-true _ _ a.0; first = eqb-true _ _ b.0; second = eqb-true _ _ b.1 }

pub length-tkv_key : (i j : ℕ) → length (tkv_key i j) ≡ tkv_size
unfolding tkv_key
length-tkv_key i j = simp (length-append, length-little_endian 8 i, length-big_endian 4 j)

key_shape : (i j : ℕ) → tkv_shape (tkv_key i j) ≡ true
unfolding tkv_shape tkv_key
key_shape i j =
    let n : length (65 ∷ (little_endian 8 i ++ (67 ∷ big_endian 4 j))) ≡ tkv_size = length-tkv_key i j in
    let g : get_or (65 ∷ (little_endian 8 i ++ (67 ∷ big_endian 4 j))) 9 0 ≡ 67 = get_or_at (little_endian 8 i) 67 (big_endian 4 j) 0 8 (length-little_endian 8 i) in
    simp (eq-eqb _ _ n, eq-eqb _ _ g)

-- ---- what is read

-- a key of the right shape is read, and any other refused
pub read_shaped : (key : List ℕ) → tkv_shape key ≡ true → read_tkv key ≡ done (chunk (little_at key 1 8) (number_at key 10 4))
unfolding read_tkv first_of
read_shaped key s = rw s

pub read_unshaped : (key : List ℕ) → tkv_shape key ≡ false → read_tkv key ≡ refused (refusal not_of_form 0)
unfolding read_tkv first_of
read_unshaped key s = rw s

-- a key of the right shape is the letter, eight bytes, the letter, four bytes
joined : (key : List ℕ) → Shaped key → key ≡ 65 ∷ (take 8 (drop 1 key) ++ (67 ∷ take 4 (drop 10 key)))
joined key s =
    let a : key ≡ get_or key 0 0 ∷ drop 1 key = drop-cons key 0 0 (omega arith) in
    let b : drop 1 key ≡ take 8 (drop 1 key) ++ drop 9 key = sym (take-append-drop 8 (drop 1 key)) ∙ ap (λ (l : List ℕ). take 8 (drop 1 key) ++ l) (drop-drop 8 1 key) in
    let d : drop 9 key ≡ get_or key 9 0 ∷ drop 10 key = drop-cons key 9 0 (omega arith) in
    let f : take 4 (drop 10 key) ≡ drop 10 key = take_all 4 (drop 10 key) (simp length-drop (omega arith)) in
    a ∙ rw (s.first, f) (ap (λ (l : List ℕ). 65 ∷ l) (b ∙ ap (λ (l : List ℕ). take 8 (drop 1 key) ++ l) (d ∙ rw s.second)))

whole : (t : List ℕ) → Bytes t → Shaped t → t ≡ tkv_key (little_at t 1 8) (number_at t 10 4)
unfolding tkv_key
whole t h s =
    let a : little_endian 8 (little_at t 1 8) ≡ take 8 (drop 1 t) = little_forth t 1 8 h (omega arith) in
    let b : big_endian 4 (number_at t 10 4) ≡ take 4 (drop 10 t) = number_forth t 10 4 h (omega arith) in
    rw (a, b) (joined t s)

-- ---- the theorems

pub tkv_key_lem : Inverse Bytes (λ c. chunk_allowed c.inode c.index) (λ c. tkv_key c.inode c.index) read_tkv
tkv_key_lem = record { back = back; forth = forth; only = only }
  where
    back : (c : Chunk) → chunk_allowed c.inode c.index ≡ true → read_tkv (tkv_key c.inode c.index) ≡ done c
    back c a =
        let r = in_range c.inode c.index a in
        read_shaped _ (key_shape c.inode c.index) ∙ rw (inode_back c.inode c.index (omega arith), index_back c.inode c.index (omega arith))

    forth : (t : List ℕ) → Bytes t → (c : Chunk) → read_tkv t ≡ done c → (t ≡ tkv_key c.inode c.index) × (chunk_allowed c.inode c.index ≡ true)
    forth t h c r = go (tkv_shape t) refl
      where
        go : (s : Bool) → tkv_shape t ≡ s → (t ≡ tkv_key c.inode c.index) × (chunk_allowed c.inode c.index ≡ true)
        go true e =
            let p : done (chunk (little_at t 1 8) (number_at t 10 4)) ≡ done c = sym (read_shaped t e) ∙ r in
            let q : chunk (little_at t 1 8) (number_at t 10 4) ≡ c = cc in
            rw (← q) (whole t h (shaped t e), chunk_allowed_lem _ _ (record { inode = omega (arith, little_at_bound t 1 8 h); index = omega (arith, number_at_bound t 10 4 h) }))
        go false e =
            let p : refused (refusal not_of_form 0) ≡ done c = sym (read_unshaped t e) ∙ r in
            let z : ◌≡◌ {A = ℕ} 0 1 = cc in
            absurd (omega arith)

    only : (t : List ℕ) (r : Refusal) → read_tkv t ≡ refused r → r ≡ refusal not_of_form 0
    only t r e = go (tkv_shape t) refl
      where
        go : (s : Bool) → tkv_shape t ≡ s → r ≡ refusal not_of_form 0
        go true s =
            let p = sym (read_shaped t s) ∙ e in
            let z : ◌≡◌ {A = ℕ} 0 1 = cc in
            absurd (omega arith)
        go false s = let p = sym (read_unshaped t s) ∙ e in cc

-- writing then reading gives the numbers back
pub tkv_key_back : (inode index : ℕ) → chunk_allowed inode index ≡ true → read_tkv (tkv_key inode index) ≡ done (chunk inode index)
tkv_key_back inode index a = tkv_key_lem.back (chunk inode index) a

-- an accepted key is exactly the written one, and its numbers are allowed
pub tkv_key_forth : (t : List ℕ) → Bytes t → (inode index : ℕ) → read_tkv t ≡ done (chunk inode index) → (t ≡ tkv_key inode index) × (chunk_allowed inode index ≡ true)
tkv_key_forth t h inode index r = tkv_key_lem.forth t h (chunk inode index) r

-- two chunks never share a key
pub tkv_key_distinct : (c d : Chunk) → chunk_allowed c.inode c.index ≡ true → chunk_allowed d.inode d.index ≡ true
    → tkv_key c.inode c.index ≡ tkv_key d.inode d.index → c ≡ d
tkv_key_distinct = inverse.distinct tkv_key_lem

-- reading gives 13 exactly where no chunk has that key
pub tkv_key_refused_exactly : (t : List ℕ) → Bytes t
    → (read_tkv t ≡ refused (refusal not_of_form 0)) ↔ ((c : Chunk) → chunk_allowed c.inode c.index ≡ true → t ≡ tkv_key c.inode c.index → ⊥)
tkv_key_refused_exactly = inverse.refused_exactly tkv_key_lem

-- writing gives 13 exactly where the numbers are not allowed, else 12 exactly where the buffer is too short
pub write_tkv_refused_exactly : (inode index : ℕ) → WriterRefuses (write_tkv inode index) (chunk_allowed inode index) (tkv_key inode index)
write_tkv_refused_exactly inode index = writer_refuses (chunk_allowed inode index) (tkv_key inode index)
