-- The list of one number among joined lists. Assumes nothing.
use Prim.Native.Nat.{ℕ, zero, suc, ◌+◌, ◌-◌, ◌<◌, ◌≤◌}
use native.Mathlib.Omega.{arith}
use mathlib.Core.Path.{◌≡◌, refl, sym, ◌∙◌}
use mathlib.Core.List.{List, [], ◌∷◌, map}
use lib.ListN.{length, take, drop, get_or}
use lib.Seq.{drop-drop}
use Rattle.codec.specs.All.{All}
use Rattle.codec.specs.Groups.{groups_from}
use Rattle.slices.specs.Record.{records, records_from, count}
use Rattle.joined.specs.Lists.{total, parts}
use Rattle.joined.proofs.Laws.Lists.{Gone}

rest_less : (k : ℕ) (ns : List ℕ) → total (drop k ns) ≤ total ns
unfolding total
rest_less zero ns = omega arith
rest_less (suc k) [] = omega arith
rest_less (suc k) (n ∷ ns) = omega (arith, rest_less k ns)

list_at : (k at : ℕ) (ns bs : List ℕ) → k < length ns → at + total (drop k ns) ≡ total ns → get_or (parts ns bs) k [] ≡ take (get_or ns k 0) (drop at bs)
unfolding total parts
list_at zero at [] bs h e = absurd (omega arith)
list_at (suc k) at [] bs h e = absurd (omega arith)
list_at zero at (n ∷ ns) bs h e =
    let z : at ≡ 0 = omega arith in
    rw z
list_at (suc k) at (n ∷ ns) bs h e =
    let l = rest_less k ns in
    let z : n + (at - n) ≡ at = omega arith in
    list_at k (at - n) ns (drop n bs) (omega arith) (omega arith) ∙ rw (drop-drop (at - n) n bs, z)

-- where k lists are gone by, the next stands
pub gone_list : (ns bs : List ℕ) (at k : ℕ) → total ns ≡ length bs → Gone ns bs at k → k < length ns → get_or (parts ns bs) k [] ≡ take (get_or ns k 0) (drop at bs)
gone_list ns bs at k h g l = list_at k at ns bs l (omega (arith, g.left))

-- what holds of each holds of it
pub all_at : {A : Type 0} (P : A → Type 0) (xs : List A) (k : ℕ) (d : A) → All P xs → k < length xs → P (get_or xs k d)
all_at P [] zero d h l = absurd (omega arith)
all_at P [] (suc k) d h l = absurd (omega arith)
all_at P (x ∷ xs) zero d h l = h.0
all_at P (x ∷ xs) (suc k) d h l = all_at P xs k d h.1 (omega arith)

-- its records
none : records [] ≡ []
unfolding records records_from count groups_from
none = refl

pub records_of : (xs : List (List ℕ)) (k : ℕ) → get_or (map records xs) k [] ≡ records (get_or xs k [])
records_of [] k = sym none
records_of (x ∷ xs) zero = refl
records_of (x ∷ xs) (suc k) = records_of xs k
