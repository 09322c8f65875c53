-- A piece may be cut anywhere, each piece of a plan by itself, and pieces may stand in any order. Assumes nothing.
use Prim.Native.Nat.{ℕ, ◌+◌, ◌<◌}
use native.Mathlib.Omega.{arith}
use native.Mathlib.Nat.{add-zero, zero-add}
use mathlib.Core.Path.{◌≡◌, refl, sym, subst}
use mathlib.Core.List.{List, [], ◌∷◌, ◌++◌, reverse, reverse_aux, append_assoc, append-nil}
use Rattle.codec.specs.All.{All}
use Rattle.joined.specs.Lists.{total}
use Rattle.runs.specs.Runs.{Run}
use Rattle.plans.specs.Location.{Site, onward}
use Rattle.judging.specs.Cuts.{stretch, stretches, CutUp, nothing, next, Reordered, unchanged, once_more}
use Rattle.plans.specs.declared.Location.{Location}
use Rattle.plans.specs.declared.Location.TheVariants.{Hole, In}

-- ---- cut

pub cut_in_two : (r : Run Site) (a b : ℕ) → 0 < a → 0 < b → a + b ≡ r.len → CutUp (r ∷ []) (stretch r 0 a ∷ stretch r a b ∷ [])
unfolding stretches total
cut_in_two r a b h k e =
    subst (λ (p : ℕ). CutUp (r ∷ []) (stretch r 0 a ∷ stretch r p b ∷ [])) (zero-add a)
    (next r (a ∷ b ∷ []) (record { some = (h, (k, tt)); all = omega arith }) nothing)

onward-zero : (a : Location) → onward a 0 ≡ a
unfolding onward
onward-zero Hole = refl
onward-zero (In i b l t) = rw add-zero

stretch_whole : (r : Run Site) → stretch r 0 r.len ≡ r
unfolding stretch
stretch_whole r = λ i. record { start = add-zero r.start i; len = r.len; first = record { index = r.first.index; location = onward-zero r.first.location i } }

pub cut_nowhere : (rs : List (Run Site)) → All (λ (r : Run Site). 0 < r.len) rs → CutUp rs rs
unfolding stretches total
cut_nowhere [] h = nothing
cut_nowhere (r ∷ rs) h =
    subst (λ (x : Run Site). CutUp (r ∷ rs) (x ∷ rs)) (stretch_whole r)
    (next r (r.len ∷ []) (record { some = (h.0, tt); all = omega arith }) (cut_nowhere rs h.1))

pub cut_both : {rs xs ss ys : List (Run Site)} → CutUp rs xs → CutUp ss ys → CutUp (rs ++ ss) (xs ++ ys)
cut_both nothing d = d
cut_both {ss = ss} {ys = ys} (next {rs = rs} {xs = xs} r ns c more) d =
    subst (CutUp (r ∷ (rs ++ ss))) (sym (append_assoc (stretches r 0 ns) xs ys)) (next r ns c (cut_both more d))

-- ---- in another order

pub exchange : (before after : List (Run Site)) (r s : Run Site) → Reordered (before ++ (r ∷ s ∷ after)) (before ++ (s ∷ r ∷ after))
exchange before after r s = once_more before after r s unchanged

pub order_order : {xs ys zs : List (Run Site)} → Reordered xs ys → Reordered ys zs → Reordered xs zs
order_order o unchanged = o
order_order o (once_more before after r s p) = once_more before after r s (order_order o p)

order_behind : (x : Run Site) {xs ys : List (Run Site)} → Reordered xs ys → Reordered (x ∷ xs) (x ∷ ys)
order_behind x unchanged = unchanged
order_behind x (once_more before after r s p) = once_more (x ∷ before) after r s (order_behind x p)

-- the first piece, moved behind others
moved : (x : Run Site) (xs ys : List (Run Site)) → Reordered (x ∷ (xs ++ ys)) (xs ++ (x ∷ ys))
moved x [] ys = unchanged
moved x (y ∷ xs) ys = order_order (exchange [] (xs ++ ys) x y) (order_behind y (moved x xs ys))

turned : (xs ys : List (Run Site)) → Reordered (xs ++ ys) (reverse_aux xs ys)
turned [] ys = unchanged
turned (x ∷ xs) ys = order_order (moved x xs ys) (turned xs (x ∷ ys))

pub order_reverse : (xs : List (Run Site)) → Reordered xs (reverse xs)
order_reverse xs = subst (λ (l : List (Run Site)). Reordered l (reverse xs)) (append-nil xs) (turned xs [])
