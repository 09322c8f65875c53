-- Laws of elements of a fixed width, one after the other: how many there are, each by its place, and that elements that are written are read
-- back, and bytes that are read are written back. Assumes nothing.
use Prim.Native.Nat.{ℕ, zero, suc, ◌+◌, ◌*◌, ◌/◌, ◌%◌, ◌<◌, ◌≤◌}
use native.Mathlib.Omega.{arith}
use native.Mathlib.Nat.{add-zero, zero-add, add-mul, suc-mul, zero-mul, zero-div, add-div_left, div-add-mod'}
use native.Mathlib.Numerals.{add-one}
use native.Mathlib.Decide.{ℕ_discrete}
use mathlib.Core.Path.{◌≡◌, refl, sym, ap, ◌∙◌}
use mathlib.Core.List.{List, [], ◌∷◌, ◌++◌, flat_map, append_assoc}
use lib.ListN.{length, take, drop, length-append}
use lib.Seq.{take-add, take_all, drop-drop}
use Rattle.codec.specs.All.{All}
use Rattle.codec.specs.Groups.{groups_from, groups}

-- the next n + m bytes are the next n and the m after them
pub cut : (bs : List ℕ) (n m i j : ℕ) → i + n ≡ j → take (n + m) (drop i bs) ≡ take n (drop i bs) ++ take m (drop j bs)
cut bs n m i j e = take-add n m (drop i bs) ∙ rw (drop-drop n i bs, e)

pub flat_map-append : {A : Type 0} (e : A → List ℕ) (xs ys : List A) → flat_map e (xs ++ ys) ≡ flat_map e xs ++ flat_map e ys
unfolding flat_map
flat_map-append e [] ys = refl
flat_map-append e (x ∷ xs) ys = ap (λ (bs : List ℕ). e x ++ bs) (flat_map-append e xs ys) ∙ sym (append_assoc (e x) (flat_map e xs) (flat_map e ys))

module _ {A : Type 0} (e : A → List ℕ) (w : ℕ) (sized : (x : A) → length (e x) ≡ w) where
  pub length_encoded : (xs : List A) → length (flat_map e xs) ≡ length xs * w
  unfolding flat_map
  length_encoded [] = sym (zero-mul w)
  length_encoded (x ∷ xs) = rw (length-append, sized x, length_encoded xs, suc-mul) (omega arith)

module _ {A : Type 0} (d : List ℕ → ℕ → A) (w : ℕ) where
  -- ---- element by element

  pub length-groups : (bs : List ℕ) (i n : ℕ) → length (groups_from d w bs i n) ≡ n
  unfolding groups_from
  length-groups bs i zero = refl
  length-groups bs i (suc n) = ap suc (length-groups bs (suc i) n)

  -- one element more at the end
  pub groups_more : (bs : List ℕ) (i n : ℕ) → groups_from d w bs i (suc n) ≡ groups_from d w bs i n ++ (d bs ((i + n) * w) ∷ [])
  unfolding groups_from
  groups_more bs i zero = rw add-zero
  groups_more bs i (suc n) =
      let e : i + suc n ≡ suc i + n = omega arith in
      rw e (ap (λ (xs : List A). d bs (i * w) ∷ xs) (groups_more bs (suc i) n))

  -- what holds of each element by its place holds of all, and the other way round
  module _ (P : A → Type 0) (bs : List ℕ) where
    pub groups_all : (i n : ℕ) → ((j : ℕ) → i ≤ j → j < i + n → P (d bs (j * w))) → All P (groups_from d w bs i n)
    unfolding groups_from
    groups_all i zero h = tt
    groups_all i (suc n) h = (h i (omega arith) (omega arith), groups_all (suc i) n (λ j a b. h j (omega arith) (omega arith)))

    pub groups_at : (i n : ℕ) → All P (groups_from d w bs i n) → (j : ℕ) → i ≤ j → j < i + n → P (d bs (j * w))
    unfolding groups_from
    groups_at i zero h j a b = absurd (omega arith)
    groups_at i (suc n) h j a b = go (ℕ_discrete j i) (groups_at (suc i) n h.1 j)
      where
        go : Dec (j ≡ i) → (suc i ≤ j → j < suc i + n → P (d bs (j * w))) → P (d bs (j * w))
        go (yes e) f = rw e h.0
        go (no e) f = f (omega arith) (omega arith)

  -- ---- bytes that are read are written back

  module _ (e : A → List ℕ) (bs : List ℕ) (forth : (at : ℕ) → at + w ≤ length bs → e (d bs at) ≡ take w (drop at bs)) where
    from_forth : (i n : ℕ) → (i + n) * w ≤ length bs → flat_map e (groups_from d w bs i n) ≡ take (n * w) (drop (i * w) bs)
    unfolding flat_map groups_from
    from_forth i zero l = rw zero-mul
    from_forth i (suc n) l =
        let l' : i * w + (suc n * w) ≤ length bs = rw add-mul at l in
        let a = forth (i * w) (omega (arith, suc-mul n w)) in
        let t : flat_map e (groups_from d w bs (suc i) n) ≡ take (n * w) (drop (suc i * w) bs) =
        from_forth (suc i) n (omega (arith, add-mul (suc i) n w, suc-mul i w, suc-mul n w)) in
        let s = cut bs w (n * w) (i * w) (suc i * w) (omega (arith, suc-mul i w)) in
        let k : suc n * w ≡ w + n * w = omega (arith, suc-mul n w) in
        rw k (cc)

    -- a whole number of elements
    pub groups_forth : length bs % w ≡ 0 → flat_map e (groups d w bs) ≡ bs
    unfolding groups
    groups_forth h =
        let k = div-add-mod' (length bs) w in
        from_forth 0 (length bs / w) (rw zero-add (omega arith)) ∙ rw zero-mul (take_all (length bs / w * w) bs (omega arith))

  -- ---- elements that are written are read back

  -- what stands in front does not count
  module _ (pos : 0 < w) (behind : (pre bs : List ℕ) (at : ℕ) → d (pre ++ bs) (length pre + at) ≡ d bs at) where
    from_behind : (pre bs : List ℕ) → length pre ≡ w → (i n : ℕ) → groups_from d w (pre ++ bs) (suc i) n ≡ groups_from d w bs i n
    unfolding groups_from
    from_behind pre bs h i zero = refl
    from_behind pre bs h i (suc n) =
        let e : suc i * w ≡ length pre + i * w = omega (arith, suc-mul i w) in
        let t : groups_from d w (pre ++ bs) (suc (suc i)) n ≡ groups_from d w bs (suc i) n = from_behind pre bs h (suc i) n in
        let g : d (pre ++ bs) (suc i * w) ≡ d bs (i * w) = rw e (behind pre bs (i * w)) in
        cc

    -- the element in front, and the others
    groups-cons : (pre bs : List ℕ) → length pre ≡ w → groups d w (pre ++ bs) ≡ d (pre ++ bs) 0 ∷ groups d w bs
    unfolding groups groups_from
    groups-cons pre bs h =
        let k : length (pre ++ bs) / w ≡ suc (length bs / w) = rw (length-append, h, add-div_left (length bs) pos, add-one) in
        rw (k, zero-mul) (ap (λ (xs : List A). d (pre ++ bs) 0 ∷ xs) (from_behind pre bs h 0 (length bs / w)))

    module _ (e : A → List ℕ) (sized : (x : A) → length (e x) ≡ w) (P : A → Type 0) (back : (x : A) (rest : List ℕ) → P x → d (e x ++ rest) 0 ≡ x) where
      pub groups_back : (xs : List A) → All P xs → groups d w (flat_map e xs) ≡ xs
      unfolding flat_map groups groups_from
      groups_back [] f = rw zero-div
      groups_back (x ∷ xs) f = groups-cons (e x) (flat_map e xs) (sized x) ∙ rw (back x (flat_map e xs) f.0, groups_back xs f.1)
