-- Laws of joined lists: where each list stands in the bytes. Assumes nothing.
use Prim.Native.Nat.{ℕ, zero, suc, ◌+◌, ◌-◌, ◌<◌, ◌≤◌}
use native.Mathlib.Omega.{arith}
use mathlib.Core.Path.{◌≡◌, refl, sym, ap, ◌∙◌}
use mathlib.Core.List.{List, [], ◌∷◌, ◌++◌, map, flatten}
use lib.ListN.{length, take, drop, get_or, length-take, length-drop, take-append-drop, length-append}
use lib.Dec.{eqb}
use native.Mathlib.Decide.{ℕ_discrete}
use borrow.Author.Tests.{eq-eqb, ne_eqb}
use lib.Seq.{drop-drop, drop-cons, take-append_seam, drop-append_seam}
use Rattle.joined.specs.Lists.{total, parts}

-- ---- the lengths

pub total_next : (k : ℕ) (ns : List ℕ) → k < length ns → total (drop k ns) ≡ get_or ns k 0 + total (drop (suc k) ns)
unfolding total
total_next k ns h = rw (drop-cons ns k 0)

-- nothing is left behind the last
pub total_end : (k : ℕ) (ns : List ℕ) → length ns ≤ k → total (drop k ns) ≡ 0
unfolding total
total_end zero [] h = refl
total_end zero (n ∷ ns) h = absurd (omega arith)
total_end (suc k) [] h = refl
total_end (suc k) (n ∷ ns) h = total_end k ns (omega arith)

-- nothing is left of the bytes exactly where the lengths add up to them
pub none_left : (sum left bytes : ℕ) → sum + left ≡ bytes → eqb left 0 ≡ eqb sum bytes
none_left sum left bytes h = go (ℕ_discrete left 0)
  where
    go : Dec (left ≡ 0) → eqb left 0 ≡ eqb sum bytes
    go (yes e) = eq-eqb left 0 e ∙ sym (eq-eqb sum bytes (omega arith))
    go (no e) = ne_eqb left 0 e ∙ sym (ne_eqb sum bytes (λ z. e (omega arith)))

-- ---- the lists

pub parts-length : (ns bs : List ℕ) → length (parts ns bs) ≡ length ns
unfolding parts
parts-length [] bs = refl
parts-length (n ∷ ns) bs = ap suc (parts-length ns (drop n bs))

-- the lists from the number k on
pub parts_next : (k : ℕ) (ns bs : List ℕ) → k < length ns → parts (drop k ns) bs ≡ take (get_or ns k 0) bs ∷ parts (drop (suc k) ns) (drop (get_or ns k 0) bs)
unfolding parts
parts_next k ns bs h = rw (drop-cons ns k 0)

-- the lists have these lengths
pub parts_lengths : (ns bs : List ℕ) → total ns ≤ length bs → map length (parts ns bs) ≡ ns
unfolding parts total
parts_lengths [] bs h = refl
parts_lengths (n ∷ ns) bs h =
    let e : length (take n bs) ≡ n = simp length-take (omega arith) in
    let t = parts_lengths ns (drop n bs) (simp length-drop (omega arith)) in
    cc

-- one after the other they are all the bytes
pub joined_parts : (ns bs : List ℕ) → total ns ≡ length bs → flatten (parts ns bs) ≡ bs
unfolding parts total flatten
joined_parts [] [] h = refl
joined_parts [] (b ∷ bs) h = absurd (omega arith)
joined_parts (n ∷ ns) bs h = ap (λ (cs : List ℕ). take n bs ++ cs) (joined_parts ns (drop n bs) (rw length-drop (omega arith))) ∙ take-append-drop n bs

-- lists that were joined come apart again, whatever they hold
pub parts_joined : (ls : List (List ℕ)) → parts (map length ls) (flatten ls) ≡ ls
unfolding parts flatten
parts_joined [] = refl
parts_joined (l ∷ ls) = rw (take-append_seam l (flatten ls), drop-append_seam l (flatten ls)) (ap (λ (ms : List (List ℕ)). l ∷ ms) (parts_joined ls))

pub total_joined : (ls : List (List ℕ)) → total (map length ls) ≡ length (flatten ls)
unfolding total flatten
total_joined [] = refl
total_joined (l ∷ ls) = rw (length-append l (flatten ls)) (ap (λ (n : ℕ). length l + n) (total_joined ls))

-- ---- list by list

-- k lists are gone by, and their bytes end at `at`
pub record Gone (ns bs : List ℕ) (at k : ℕ) : Type 0 where
  pub within : k ≤ length ns
  pub left : at + total (drop k ns) ≡ length bs

pub gone_start : (ns bs : List ℕ) → total ns ≡ length bs → Gone ns bs 0 0
gone_start ns bs h = record { within = omega arith; left = omega arith }

module _ (ns bs : List ℕ) (at k : ℕ) (g : Gone ns bs at k) (h : k < length ns) where
  -- the next list lies inside the bytes
  pub gone_within : at + get_or ns k 0 ≤ length bs
  gone_within = omega (arith, g.left, total_next k ns h)

  -- it stands up to `end`
  module _ (end : ℕ) (e : end ≡ at + get_or ns k 0) where
    pub gone_next : Gone ns bs end (suc k)
    gone_next = record { within = omega arith; left = omega (arith, g.left, total_next k ns h) }

    pub next_list : parts (drop k ns) (drop at bs) ≡ take (end - at) (drop at bs) ∷ parts (drop (suc k) ns) (drop end bs)
    next_list =
        let z : end - at ≡ get_or ns k 0 = omega arith in
        parts_next k ns (drop at bs) h ∙ rw (z, drop-drop (get_or ns k 0) at bs, e)
