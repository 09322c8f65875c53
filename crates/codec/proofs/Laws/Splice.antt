-- Laws of bytes that are put into a buffer. Assumes nothing.
use Prim.Native.Nat.{ℕ, suc, ◌+◌, ◌<◌, ◌≤◌}
use native.Mathlib.Omega.{arith}
use native.Mathlib.Nat.{add-zero, zero-add, add_assoc}
use native.Mathlib.Numerals.{add-one}
use mathlib.Core.Path.{◌≡◌, sym, ap, ◌∙◌}
use mathlib.Core.List.{List, [], ◌∷◌, ◌++◌, append_assoc, append-nil}
use lib.ListN.{length, get_or, take, drop, set, length-append, length-take, length-drop, take-append-drop, drop_of_length-le}
use lib.Seq.{set_split, take_at, drop_at, take-suc, length-take-le, drop-append-add, drop-drop, take-append-le, take-take}
use Rattle.codec.specs.Splice.{splice}
use Rattle.codec.specs.Inner.{Puts}

pub splice-nil : (out : List ℕ) (at : ℕ) → splice out at [] ≡ out
unfolding splice
splice-nil out at = rw (add-zero, take-append-drop)

module _ (out : List ℕ) (at : ℕ) (bs : List ℕ) (h : at + length bs ≤ length out) where
  pub length-splice : length (splice out at bs) ≡ length out
  unfolding splice
  length-splice = simp (length-append, length-take, length-drop) (omega arith)

  front : length (take at out ++ bs) ≡ at + length bs
  front = simp (length-append, length-take) (omega arith)

  -- what is put right behind what was put
  splice-append : (cs : List ℕ) → splice (splice out at bs) (at + length bs) cs ≡ splice out at (bs ++ cs)
  unfolding splice
  splice-append cs =
      let e : take at out ++ (bs ++ drop (at + length bs) out) ≡ (take at out ++ bs) ++ drop (at + length bs) out = sym (append_assoc (take at out) bs (drop (at + length bs) out)) in
      let d : drop (at + length bs + length cs) ((take at out ++ bs) ++ drop (at + length bs) out) ≡ drop (at + (length bs + length cs)) out =
      ap (λ (n : ℕ). drop (n + length cs) ((take at out ++ bs) ++ drop (at + length bs) out)) (sym front)
      ∙ drop-append-add (take at out ++ bs) (drop (at + length bs) out) (length cs)
      ∙ drop-drop (length cs) (at + length bs) out
      ∙ ap (λ (n : ℕ). drop n out) (add_assoc (at) (length bs) (length cs)) in
      rw (e, d, take_at (take at out ++ bs) (drop (at + length bs) out) (at + length bs) front, length-append, append_assoc, append_assoc)

pub splice_then : (out : List ℕ) (at : ℕ) (bs : List ℕ) (n : ℕ) (cs : List ℕ) → length bs ≡ n → at + n ≤ length out
    → splice (splice out at bs) (at + n) cs ≡ splice out at (bs ++ cs)
splice_then out at bs n cs e h = rw (← e) (splice-append out at bs (rw e h) cs)

-- one byte that is stored
pub splice_one : (out : List ℕ) (at v : ℕ) → at < length out → set out at v ≡ splice out at (v ∷ [])
unfolding splice
splice_one out at v h = rw (add-one, set_split out at v h)

-- one byte more of what is put
pub splice_more : (out : List ℕ) (at k : ℕ) (bs : List ℕ) → k < length bs → at + length bs ≤ length out
    → set (splice out at (take k bs)) (at + k) (get_or bs k 0) ≡ splice out at (take (suc k) bs)
splice_more out at k bs h l =
    let t : length (take k bs) ≡ k = simp length-take (omega arith) in
    let n : length (splice out at (take k bs)) ≡ length out = length-splice out at (take k bs) (omega arith) in
    splice_one (splice out at (take k bs)) (at + k) (get_or bs k 0) (omega arith)
    ∙ splice_then out at (take k bs) k (get_or bs k 0 ∷ []) t (omega arith)
    ∙ ap (splice out at) (sym (take-suc bs k 0 h))

-- what is put one after the other
module _ (out : List ℕ) (at : ℕ) where
  pub splices_2 : {o₁ o₂ : List ℕ} (a b : List ℕ) (i : ℕ) → length a ≡ i → at + i ≤ length out
      → o₁ ≡ splice out at a → o₂ ≡ splice o₁ (at + i) b → o₂ ≡ splice out at (a ++ b)
  splices_2 a b i hi h e₁ e₂ =
      let s₁ = splice_then out at a i b hi h in
      cc

  pub splices_4 : {o₁ o₂ o₃ o₄ : List ℕ} (a b c d : List ℕ) (i j k : ℕ) → length a ≡ i → i + length b ≡ j → j + length c ≡ k → at + k ≤ length out
      → o₁ ≡ splice out at a → o₂ ≡ splice o₁ (at + i) b → o₃ ≡ splice o₂ (at + j) c → o₄ ≡ splice o₃ (at + k) d
      → o₄ ≡ splice out at (a ++ (b ++ (c ++ d)))
  splices_4 a b c d i j k hi hj hk h e₁ e₂ e₃ e₄ =
      let s₁ = splice_then out at a i b hi (omega arith) in
      let s₂ = splice_then out at (a ++ b) j c (length-append a b ∙ omega arith) (omega arith) in
      let s₃ = splice_then out at ((a ++ b) ++ c) k d (length-append (a ++ b) c ∙ omega (arith, length-append a b)) h in
      let s : splice out at (((a ++ b) ++ c) ++ d) ≡ splice out at (a ++ (b ++ (c ++ d))) = ap (splice out at) (simp append_assoc) in
      cc

  pub splices_5 : {o₁ o₂ o₃ o₄ o₅ : List ℕ} (a b c d e : List ℕ) (i j k l : ℕ) → length a ≡ i → i + length b ≡ j → j + length c ≡ k → k + length d ≡ l → at + l ≤ length out
      → o₁ ≡ splice out at a → o₂ ≡ splice o₁ (at + i) b → o₃ ≡ splice o₂ (at + j) c → o₄ ≡ splice o₃ (at + k) d → o₅ ≡ splice o₄ (at + l) e
      → o₅ ≡ splice out at (a ++ (b ++ (c ++ (d ++ e))))
  splices_5 a b c d e i j k l hi hj hk hl h e₁ e₂ e₃ e₄ e₅ =
      let x = splices_4 a b c d i j k hi hj hk (omega arith) e₁ e₂ e₃ e₄ in
      let n : length (a ++ (b ++ (c ++ d))) ≡ l = simp length-append (omega arith) in
      let s₄ = splice_then out at (a ++ (b ++ (c ++ d))) l e n h in
      let s : splice out at ((a ++ (b ++ (c ++ d))) ++ e) ≡ splice out at (a ++ (b ++ (c ++ (d ++ e)))) = ap (splice out at) (simp append_assoc) in
      cc

-- what is put at the front of a buffer stands there
pub take-splice : (out bs : List ℕ) (n : ℕ) → n ≡ length bs → take n (splice out 0 bs) ≡ bs
unfolding splice
take-splice out bs n h = take_at bs (drop (0 + length bs) out) n (sym h)

-- bytes as many as the buffer has are all of it
pub splice_whole : (out bs : List ℕ) → length out ≡ length bs → splice out 0 bs ≡ bs
unfolding splice
splice_whole out bs e = let h : length out ≤ length bs = omega arith in rw (zero-add, drop_of_length-le out h, append-nil)

-- ---- steps that put bytes

-- a step behind another
pub puts_then : {out middle last a b : List ℕ} {at room more mid end : ℕ} → Puts out at a room mid middle → Puts middle mid b more end last
    → at + room ≤ length out → Puts out at (a ++ b) (room + more) end last
puts_then {out} {middle} {last} {a} {b} {at} {room} {more} {mid} {end} p q h =
    record {
      leaves = q.leaves ∙ rw (p.leaves, p.ends) (splice-append out at a (omega arith) b);
      ends = rw length-append (omega arith);
      fits = rw length-append (omega arith);
    }

-- the same bytes in another grouping, and more room
pub puts_as : {out last a : List ℕ} {at room more end : ℕ} (b : List ℕ) → Puts out at a room end last → a ≡ b → room ≤ more → Puts out at b more end last
puts_as b p e h = rw (← e) (record { leaves = p.leaves; ends = p.ends; fits = omega (arith, p.fits) })

-- what was put behind, and then what stands before it
pub splice_before : (out : List ℕ) (at : ℕ) (a b : List ℕ) (n : ℕ) → length a ≡ n → at + n + length b ≤ length out
    → splice (splice out (at + n) b) at a ≡ splice out at (a ++ b)
unfolding splice
splice_before out at a b n e h =
    let l : length (take (at + n) out) ≡ at + n = length-take-le (at + n) out (omega arith) in
    let t : take at (take (at + n) out ++ (b ++ drop (at + n + length b) out)) ≡ take at out =
    take-append-le at (take (at + n) out) (b ++ drop (at + n + length b) out) (omega arith) ∙ take-take at (at + n) out (omega arith) in
    let d : drop (at + length a) (take (at + n) out ++ (b ++ drop (at + n + length b) out)) ≡ b ++ drop (at + n + length b) out =
    drop_at (take (at + n) out) (b ++ drop (at + n + length b) out) (at + length a) (omega arith) in
    let s : at + length (a ++ b) ≡ at + n + length b = simp length-append (omega arith) in
    rw (t, d, s, append_assoc)
