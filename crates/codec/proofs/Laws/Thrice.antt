-- Laws of bytes that are put at three places of a buffer. Assumes nothing.
use Prim.Native.Nat.{ℕ, ◌+◌, ◌-◌, ◌*◌, ◌/◌, ◌%◌, ◌<◌, ◌≤◌}
use native.Mathlib.Omega.{arith}
use mathlib.Core.Path.{◌≡◌, refl, sym, ap, ◌∙◌}
use mathlib.Core.List.{List, ◌++◌, append_assoc}
use lib.ListN.{length, take, drop, length-append, length-take, length-drop, take-append-drop}
use lib.Seq.{drop-drop}
use Rattle.codec.specs.Splice.{splice}
use Rattle.codec.specs.Decimal.{decimal}
use Rattle.codec.specs.Pairs.{pair}
use Rattle.codec.proofs.Laws.Pairs.{decimal_pairs, pairs_width}
use Rattle.codec.proofs.Laws.Splice.{length-splice, splice_then, splice_before}

-- what stands in a buffer, put where it stands
own : (out : List ℕ) (at k : ℕ) → at + k ≤ length out → splice out at (take k (drop at out)) ≡ out
unfolding splice
own out at k h =
    let l : length (take k (drop at out)) ≡ k = simp (length-take, length-drop) (omega arith) in
    rw (l, ← drop-drop k at out, take-append-drop, take-append-drop)

-- what is put at places that don't overlap, in either order
pub splice_swap : (out : List ℕ) (at : ℕ) (xs : List ℕ) (bt : ℕ) (ys : List ℕ) → at + length xs ≤ bt → bt + length ys ≤ length out
    → splice (splice out at xs) bt ys ≡ splice (splice out bt ys) at xs
splice_swap out at xs bt ys h g =
    let n = length xs in
    let k = bt - (at + n) in
    let m : List ℕ = take k (drop (at + n) out) in
    let l : length m ≡ k = simp (length-take, length-drop) (omega arith) in
    let e : at + n + k ≡ bt = omega arith in
    let f : at + (n + k) ≡ bt = omega arith in
    let o = own out (at + n) k (omega arith) in
    let b : splice out at xs ≡ splice out at (xs ++ m) =
    ap (λ (z : List ℕ). splice z at xs) (sym o) ∙ splice_before out at xs m n refl (omega arith) in
    let u : splice (splice out at (xs ++ m)) bt ys ≡ splice out at ((xs ++ m) ++ ys) =
    ap (λ (z : ℕ). splice (splice out at (xs ++ m)) z ys) (sym f) ∙ splice_then out at (xs ++ m) (n + k) ys (simp length-append (omega arith)) (omega arith) in
    let v : splice out bt ys ≡ splice out (at + n) (m ++ ys) =
    ap (λ (z : List ℕ). splice z bt ys) (sym o) ∙ ap (λ (z : ℕ). splice (splice out (at + n) m) z ys) (sym e) ∙ splice_then out (at + n) m k ys l (omega arith) in
    let w : splice (splice out (at + n) (m ++ ys)) at xs ≡ splice out at (xs ++ (m ++ ys)) = splice_before out at xs (m ++ ys) n refl (simp length-append (omega arith)) in
    ap (λ (z : List ℕ). splice z bt ys) b ∙ u ∙ ap (splice out at) (append_assoc xs m ys) ∙ sym w ∙ ap (λ (z : List ℕ). splice z at xs) (sym v)

-- bytes at three places
abbrev pub thrice : List ℕ → ℕ → ℕ → ℕ → List ℕ → List ℕ
thrice out a b c s = splice (splice (splice out c s) b s) a s

-- what was put behind at each place, and then what stands before it
thrice_before : (out : List ℕ) (a b c k : ℕ) (p s : List ℕ) → length p ≡ k → a + k + length s ≤ b → b + k + length s ≤ c → c + k + length s ≤ length out
    → thrice (thrice out (a + k) (b + k) (c + k) s) a b c p ≡ thrice out a b c (p ++ s)
thrice_before out a b c k p s e h₁ h₂ h₃ =
    let o₁ = splice out (c + k) s in
    let l₁ : length o₁ ≡ length out = length-splice out (c + k) s (omega arith) in
    let o₂ = splice o₁ (b + k) s in
    let l₂ : length o₂ ≡ length out = length-splice o₁ (b + k) s (omega arith) ∙ l₁ in
    let x₁ : splice (splice o₂ (a + k) s) c p ≡ splice (splice o₂ c p) (a + k) s = splice_swap o₂ (a + k) s c p (omega arith) (omega arith) in
    let x₂ : splice o₂ c p ≡ splice (splice o₁ c p) (b + k) s = splice_swap o₁ (b + k) s c p (omega arith) (omega arith) in
    let x₃ : splice o₁ c p ≡ splice out c (p ++ s) = splice_before out c p s k e (omega arith) in
    let o₃ = splice out c (p ++ s) in
    let l₃ : length o₃ ≡ length out = length-splice out c (p ++ s) (simp length-append (omega arith)) in
    let l₄ : length (splice o₃ (b + k) s) ≡ length out = length-splice o₃ (b + k) s (omega arith) ∙ l₃ in
    let x₄ : splice (splice (splice o₃ (b + k) s) (a + k) s) b p ≡ splice (splice (splice o₃ (b + k) s) b p) (a + k) s = splice_swap (splice o₃ (b + k) s) (a + k) s b p (omega arith) (omega arith) in
    let x₅ : splice (splice o₃ (b + k) s) b p ≡ splice o₃ b (p ++ s) = splice_before o₃ b p s k e (omega arith) in
    let o₄ = splice o₃ b (p ++ s) in
    let l₅ : length o₄ ≡ length out = length-splice o₃ b (p ++ s) (simp length-append (omega arith)) ∙ l₃ in
    let x₆ : splice (splice o₄ (a + k) s) a p ≡ splice o₄ a (p ++ s) = splice_before o₄ a p s k e (omega arith) in
    cc

-- one place after the other
pub thrice_steps : (out : List ℕ) {o₁ o₂ o₃ : List ℕ} (a b c : ℕ) (s : List ℕ) → o₁ ≡ splice out c s → o₂ ≡ splice o₁ b s → o₃ ≡ splice o₂ a s
    → o₃ ≡ thrice out a b c s
thrice_steps out a b c s e₁ e₂ e₃ = cc

-- a turn of the loop: what is left of a number, put in front of its last pair, gives all of it
pub thrice_turn : (out : List ℕ) {after : List ℕ} (a b c i n : ℕ) → 99 < n → i ≡ length (decimal n) → a + i ≤ b → b + i ≤ c → c + i ≤ length out
    → after ≡ thrice out (a + (i - 2)) (b + (i - 2)) (c + (i - 2)) (pair (n - n / 100 * 100)) → thrice after a b c (decimal (n / 100)) ≡ thrice out a b c (decimal n)
thrice_turn out a b c i n t w h₁ h₂ h₃ e =
    let v = pairs_width n t in
    let m : n - n / 100 * 100 ≡ n % 100 = omega arith in
    ap (λ (o : List ℕ). thrice o a b c (decimal (n / 100))) (e ∙ ap (λ (d : ℕ). thrice out (a + (i - 2)) (b + (i - 2)) (c + (i - 2)) (pair d)) m)
    ∙ thrice_before out a b c (i - 2) (decimal (n / 100)) (pair (n % 100)) (omega arith) (omega arith) (omega arith) (omega arith)
    ∙ ap (thrice out a b c) (sym (decimal_pairs n t))
