-- Laws of numbers of a fixed width: what is written is read back, and what is read is what was written. Assumes nothing.
use Prim.Native.Nat.{ℕ, zero, suc, ◌+◌, ◌*◌, ◌/◌, ◌%◌, ◌^◌, ◌<◌, ◌≤◌}
use native.Mathlib.Omega.{arith}
use native.Mathlib.Nat.{add-zero, zero-add, add-suc, suc-add, add_assoc, mul_assoc, mul_comm, div-one, div-div-eq-div-mul, pow-suc, pow-succ'}
use lib.Pow.{pow-add}
use mathlib.Core.Path.{◌≡◌, refl, sym, ap, ◌∙◌}
use mathlib.Core.List.{List, [], ◌∷◌, ◌++◌, append_assoc}
use lib.ListN.{length, get_or, take, drop, length-drop}
use lib.Seq.{get_or-append-add, get_or_at, get_or-drop, take-suc}
use Rattle.codec.specs.Fixed.{big_endian, number_at}
use Rattle.codec.specs.All.{All, Bytes}

pub length-big_endian : (k x : ℕ) → length (big_endian k x) ≡ k
unfolding big_endian
length-big_endian zero x = refl
length-big_endian (suc k) x = ap suc (length-big_endian k x)

-- the lowest byte stands last
big_endian-last : (k x : ℕ) → big_endian (suc k) x ≡ big_endian k (x / 256) ++ (x % 256 ∷ [])
unfolding big_endian
big_endian-last zero x = rw div-one
big_endian-last (suc k) x =
    let e : x / 256 ^ suc k ≡ x / 256 / 256 ^ k = rw (pow-succ', div-div-eq-div-mul) in
    let t : big_endian (suc k) x ≡ big_endian k (x / 256) ++ (x % 256 ∷ []) = big_endian-last k x in
    cc

-- the bytes of a number are those of its upper part, and then those of its lower part
pub big_endian_split : (j k x : ℕ) → big_endian (j + k) x ≡ big_endian j (x / 256 ^ k) ++ big_endian k x
unfolding big_endian
big_endian_split zero k x = rw zero-add
big_endian_split (suc j) k x =
    let e : x / 256 ^ (j + k) ≡ x / 256 ^ k / 256 ^ j = rw (pow-add, mul_comm (256 ^ j) (256 ^ k), div-div-eq-div-mul) in
    rw (suc-add, big_endian_split j k x, e)

-- the lower four bytes of a number are those of its remainder
big_endian_low : (x : ℕ) → big_endian 4 (x % 4294967296) ≡ big_endian 4 x
unfolding big_endian
big_endian_low x =
    let a : x % 4294967296 / 16777216 % 256 ≡ x / 16777216 % 256 = omega arith in
    let b : x % 4294967296 / 65536 % 256 ≡ x / 65536 % 256 = omega arith in
    let d : x % 4294967296 / 256 % 256 ≡ x / 256 % 256 = omega arith in
    let e : x % 4294967296 % 256 ≡ x % 256 = omega arith in
    rw (div-one, div-one, a, b, d, e)

-- eight bytes are those of the upper half, and then those of the lower
pub big_endian_halves : (x : ℕ) → big_endian 8 x ≡ big_endian 4 (x / 4294967296) ++ big_endian 4 (x % 4294967296)
big_endian_halves x = big_endian_split 4 4 x ∙ ap (λ (l : List ℕ). big_endian 4 (x / 4294967296) ++ l) (sym (big_endian_low x))

-- ---- read

-- a number is made of its upper bytes and its lower ones
pub number_at-add : (bs : List ℕ) (at j k : ℕ) → number_at bs at (j + k) ≡ number_at bs at j * 256 ^ k + number_at bs (at + j) k
unfolding number_at
number_at-add bs at j zero = rw add-zero (omega arith)
number_at-add bs at j (suc k) =
    let t = number_at-add bs at j k in
    let e : number_at bs at j * 256 ^ suc k ≡ number_at bs at j * 256 ^ k * 256 = rw (pow-suc, mul_assoc) in
    rw (add-suc, add_assoc at j k) (omega arith)

-- what stands in front does not count
pub number_at_behind : (pre bs : List ℕ) (at k : ℕ) → number_at (pre ++ bs) (length pre + at) k ≡ number_at bs at k
unfolding number_at
number_at_behind pre bs at zero = refl
number_at_behind pre bs at (suc k) = rw (add_assoc, number_at_behind pre bs at k, get_or-append-add)

pub all_get_d : (P : ℕ → Type 0) (bs : List ℕ) (i d : ℕ) → All P bs → P d → P (get_or bs i d)
all_get_d P [] i d h z = z
all_get_d P (b ∷ bs) zero d h z = h.0
all_get_d P (b ∷ bs) (suc i) d h z = all_get_d P bs i d h.1 z

pub number_at_bound : (bs : List ℕ) (at k : ℕ) → Bytes bs → number_at bs at k < 256 ^ k
unfolding number_at
number_at_bound bs at zero h = omega arith
number_at_bound bs at (suc k) h = rw pow-suc (omega (arith, number_at_bound bs at k h, all_get_d (λ (b : ℕ). b < 256) bs (at + k) 0 h (omega arith)))

-- ---- both ways

-- what is written is read back
pub number_back : (k x : ℕ) (rest : List ℕ) → x < 256 ^ k → number_at (big_endian k x ++ rest) 0 k ≡ x
unfolding number_at big_endian
number_back zero x rest h = omega arith
number_back (suc k) x rest h =
    let b : x / 256 < 256 ^ k = omega (arith, rw pow-succ' at h) in
    let t = number_back k (x / 256) (x % 256 ∷ rest) b in
    let g = get_or_at (big_endian k (x / 256)) (x % 256) rest 0 k (length-big_endian k (x / 256)) in
    let whole : List ℕ = big_endian k (x / 256) ++ (x % 256 ∷ rest) in
    let e : number_at whole 0 k * 256 + get_or whole (0 + k) 0 ≡ x = rw (zero-add, t, g) (omega arith) in
    ap (λ (l : List ℕ). number_at (l ++ rest) 0 (suc k)) (big_endian-last k x)
    ∙ ap (λ (l : List ℕ). number_at l 0 (suc k)) (append_assoc (big_endian k (x / 256)) (x % 256 ∷ []) rest)
    ∙ e

-- a field of k bytes behind `pre` is read back
pub field_back : (pre : List ℕ) (at k x : ℕ) (rest : List ℕ) → length pre ≡ at → x < 256 ^ k → number_at (pre ++ (big_endian k x ++ rest)) at k ≡ x
field_back pre at k x rest e h =
    ap (λ (n : ℕ). number_at (pre ++ (big_endian k x ++ rest)) n k) (sym e ∙ sym (add-zero (length pre)))
    ∙ number_at_behind pre (big_endian k x ++ rest) 0 k
    ∙ number_back k x rest h

-- what is read is what was written
pub number_forth : (bs : List ℕ) (at k : ℕ) → Bytes bs → at + k ≤ length bs → big_endian k (number_at bs at k) ≡ take k (drop at bs)
unfolding number_at big_endian
number_forth bs at zero h l = refl
number_forth bs at (suc k) h l =
    let b : get_or bs (at + k) 0 < 256 = all_get_d (λ (b : ℕ). b < 256) bs (at + k) 0 h (omega arith) in
    let n = number_at bs at k * 256 + get_or bs (at + k) 0 in
    let d : n / 256 ≡ number_at bs at k = omega arith in
    let m : n % 256 ≡ get_or bs (at + k) 0 = omega arith in
    let t = number_forth bs at k h (omega arith) in
    big_endian-last k n ∙ rw (d, m, t, take-suc (drop at bs) k 0 (simp length-drop (omega arith)), get_or-drop)
