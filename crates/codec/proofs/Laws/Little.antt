-- Laws of numbers with the lowest byte first: what is written is read back, and what is read is what was written. Assumes nothing.
use Prim.Native.Nat.{ℕ, zero, suc, ◌+◌, ◌*◌, ◌/◌, ◌%◌, ◌^◌, ◌<◌, ◌≤◌}
use native.Mathlib.Omega.{arith}
use native.Mathlib.Nat.{add-zero, add-suc, add_assoc, add-mul, mul_assoc, mul_comm, mul-le-mul_right, pow-succ', one-le-pow, mod-eq_of_lt, add-mul-div_right, add-mul-mod_self_right, add_comm, div-div-eq-div-mul, div-add-mod'}
use lib.Pow.{pow-add}
use lib.Arith.{mod-mul, digits_div}
use lib.Seq.{get_or-append-add, get_or_at, get_or-drop, take-suc}
use mathlib.Core.Path.{◌≡◌, refl, sym, ap, ◌∙◌}
use mathlib.Core.List.{List, [], ◌∷◌, ◌++◌, append_assoc, append-nil}
use lib.ListN.{length, get_or, take, drop, length-append, length-drop}
use Rattle.codec.specs.All.{Bytes}
use Rattle.codec.specs.Little.{little_endian, little_at}
use Rattle.codec.proofs.Laws.Fixed.{all_get_d}

pub length-little_endian : (k x : ℕ) → length (little_endian k x) ≡ k
unfolding little_endian
length-little_endian zero x = refl
length-little_endian (suc k) x = simp (length-append, length-little_endian k x) (omega arith)

-- ---- read

-- a number is made of its lower bytes and its upper ones
pub little_at-add : (bs : List ℕ) (at j k : ℕ) → little_at bs at (j + k) ≡ little_at bs at j + little_at bs (at + j) k * 256 ^ j
unfolding little_at
little_at-add bs at j zero = rw add-zero (omega arith)
little_at-add bs at j (suc k) =
    let t = little_at-add bs at j k in
    let p : 256 ^ (j + k) ≡ 256 ^ k * 256 ^ j = rw (pow-add, mul_comm (256 ^ j) (256 ^ k)) in
    let e : (little_at bs (at + j) k + get_or bs (at + j + k) 0 * 256 ^ k) * 256 ^ j ≡ little_at bs (at + j) k * 256 ^ j + get_or bs (at + j + k) 0 * (256 ^ k * 256 ^ j) =
    rw (add-mul, mul_assoc) in
    rw (add-suc, e, p, ← add_assoc at j k) (omega arith)

byte : (bs : List ℕ) (i : ℕ) → Bytes bs → get_or bs i 0 < 256
byte bs i h = all_get_d (λ (b : ℕ). b < 256) bs i 0 h (omega arith)

pub little_at_bound : (bs : List ℕ) (at k : ℕ) → Bytes bs → little_at bs at k < 256 ^ k
unfolding little_at
little_at_bound bs at zero h = omega arith
little_at_bound bs at (suc k) h =
    rw pow-succ' (omega (arith, little_at_bound bs at k h, mul-le-mul_right (256 ^ k) (byte bs (at + k) h)))

-- ---- both ways

-- what is written is read back, behind whatever stands in front: its k lowest bytes
little_low : (pre : List ℕ) (x k : ℕ) (rest : List ℕ) → little_at (pre ++ (little_endian k x ++ rest)) (length pre) k ≡ x % 256 ^ k
unfolding little_endian little_at
little_low pre x zero rest = omega arith
little_low pre x (suc k) rest =
    let b = x / 256 ^ k % 256 in
    let t = little_low pre x k (b ∷ rest) in
    let g : get_or (pre ++ (little_endian k x ++ (b ∷ rest))) (length pre + k) 0 ≡ b = rw get_or-append-add (get_or_at (little_endian k x) b rest 0 k (length-little_endian k x)) in
    let whole : List ℕ = pre ++ (little_endian k x ++ (b ∷ rest)) in
    let e : little_at whole (length pre) k + get_or whole (length pre + k) 0 * 256 ^ k ≡ x % 256 ^ suc k = rw (t, g, pow-succ') (omega (arith, mod-mul x {m = 256} {c = 256 ^ k} (omega arith) (one-le-pow k 256 (omega arith)))) in
    ap (λ (l : List ℕ). little_at (pre ++ l) (length pre) (suc k)) (append_assoc (little_endian k x) (b ∷ []) rest) ∙ e

pub little_back : (pre : List ℕ) (k x : ℕ) (rest : List ℕ) → x < 256 ^ k → little_at (pre ++ (little_endian k x ++ rest)) (length pre) k ≡ x
little_back pre k x rest h = little_low pre x k rest ∙ mod-eq_of_lt h

-- the bytes of a number do not see what stands above them
little_endian_low : (k x y : ℕ) → little_endian k (x + y * 256 ^ k) ≡ little_endian k x
unfolding little_endian
little_endian_low zero x y = refl
little_endian_low (suc k) x y =
    let e : y * 256 ^ suc k ≡ y * 256 * 256 ^ k = rw (pow-succ', mul_assoc) in
    let d : (x + y * 256 * 256 ^ k) / 256 ^ k ≡ x / 256 ^ k + y * 256 = add-mul-div_right x (y * 256) (one-le-pow k 256 (omega arith)) in
    rw (e, little_endian_low k x (y * 256), d, add-mul-mod_self_right)

pub little_endian-mod : (k x : ℕ) → little_endian k (x % 256 ^ k) ≡ little_endian k x
little_endian-mod k x = sym (little_endian_low k (x % 256 ^ k) (x / 256 ^ k)) ∙ ap (little_endian k) (omega (arith, div-add-mod' x (256 ^ k)))

-- what is read is what was written
pub little_forth : (bs : List ℕ) (at k : ℕ) → Bytes bs → at + k ≤ length bs → little_endian k (little_at bs at k) ≡ take k (drop at bs)
unfolding little_endian little_at
little_forth bs at zero h l = refl
little_forth bs at (suc k) h l =
    let g = get_or bs (at + k) 0 in
    let n = little_at bs at k in
    let d : (n + g * 256 ^ k) / 256 ^ k ≡ g = rw add_comm (digits_div g (little_at_bound bs at k h)) in
    let m : g % 256 ≡ g = mod-eq_of_lt (byte bs (at + k) h) in
    rw (little_endian_low k n g, d, m, little_forth bs at k h (omega arith), take-suc (drop at bs) k 0 (simp length-drop (omega arith)), get_or-drop)

-- ---- two halves

-- the bytes of a number are those of its lower part, and then those of its upper part
pub little_endian_split : (j k x : ℕ) → little_endian (j + k) x ≡ little_endian j x ++ little_endian k (x / 256 ^ j)
unfolding little_endian
little_endian_split j zero x = rw (add-zero, append-nil)
little_endian_split j (suc k) x =
    let e : x / 256 ^ (j + k) ≡ x / 256 ^ j / 256 ^ k = rw (pow-add, div-div-eq-div-mul) in
    rw (add-suc, little_endian_split j k x, e, append_assoc)
