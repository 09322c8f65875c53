-- Cuts of pieces into shorter ones, and pieces in another order: they are right where the pieces are, and hold each place as often. Assumes nothing.
use Prim.Native.Nat.{ℕ, ◌+◌, ◌<◌}
use native.Mathlib.Omega.{arith}
use native.Mathlib.Nat.{add-zero, add_assoc}
use mathlib.Core.Path.{◌≡◌, refl, ap, ◌∙◌}
use mathlib.Core.List.{List, [], ◌∷◌}
use Rattle.codec.specs.All.{All}
use Rattle.codec.proofs.Laws.All.{all_append, all_left, all_right}
use Rattle.joined.specs.Lists.{total}
use Rattle.runs.specs.Runs.{Run}
use Rattle.plans.specs.Location.{Site, onward}
use Rattle.coverage.specs.Held.{holds, holders}
use Rattle.coverage.specs.Inner.{one_if}
use Rattle.judging.specs.Cuts.{stretch, stretches, CutUp, nothing, next, Reordered, unchanged, once_more}
use Rattle.judging.proofs.Laws.Held.{below, held_one, holders_one, holders-append}
use Rattle.judging.proofs.Laws.Right.{Right}
use Rattle.plans.specs.declared.Location.{Location}
use Rattle.plans.specs.declared.Location.TheVariants.{Hole, In}

-- ---- cut

onward-add : (a : Location) (d k : ℕ) → onward (onward a d) k ≡ onward a (d + k)
unfolding onward
onward-add Hole d k = refl
onward-add (In i b l t) d k = rw add_assoc

module _ (f : ℕ → Site) (n : ℕ) where
  stretches_right : (r : Run Site) → Right f n r → (d : ℕ) (ns : List ℕ) → All (λ (m : ℕ). 0 < m) ns → d + total ns ≡ r.len → All (Right f n) (stretches r d ns)
  unfolding stretches stretch total
  stretches_right r h d [] some all = tt
  stretches_right r h d (m ∷ ns) some all = (
    record {
      inside = record { some = some.0; within = omega (arith, h.inside.within) };
      sites = λ j l. rw (onward-add r.first.location d j, add_assoc r.start d j) (h.sites (d + j) (omega arith));
    },
    stretches_right r h (d + m) ns some.1 (omega arith),
  )

  pub cut_right : {rs xs : List (Run Site)} → CutUp rs xs → All (Right f n) rs → All (Right f n) xs
  cut_right nothing h = tt
  cut_right (next {xs = xs} r ns c more) h =
      all_append (Right f n) (stretches r 0 ns) xs (stretches_right r h.0 0 ns c.some (omega (arith, c.all))) (cut_right more h.1)

-- the stretches hold the places from the first on up to e
stretches_held : (i : ℕ) (r : Run Site) (d e : ℕ) (ns : List ℕ) → r.start + (d + total ns) ≡ e → below i (r.start + d) + holders (stretches r d ns) i ≡ below i e
unfolding stretches stretch total holders
stretches_held i r d e [] h =
    let q : r.start + d ≡ e = omega arith in
    rw q (omega arith)
stretches_held i r d e (m ∷ ns) h =
    let a = stretches_held i r (d + m) e ns (omega arith) in
    let b : below i (r.start + d) + one_if (holds (stretch r d m) i) ≡ below i (r.start + (d + m)) = held_one i (stretch r d m) ∙ ap (below i) (add_assoc r.start d m) in
    omega (arith, holders_one i (stretch r d m) (stretches r (d + m) ns))

pub cut_held : (i : ℕ) {rs xs : List (Run Site)} → CutUp rs xs → holders xs i ≡ holders rs i
cut_held i nothing = refl
cut_held i (next {rs = rs} {xs = xs} r ns c more) =
    let a = rw add-zero at (stretches_held i r 0 (r.start + r.len) ns (omega (arith, c.all))) in
    omega (arith, held_one i r, holders-append i (stretches r 0 ns) xs, holders_one i r rs, cut_held i more)

-- ---- in another order

module _ {xs : List (Run Site)} where
  pub order_all : (P : Run Site → Type 0) {ys : List (Run Site)} → Reordered xs ys → All P xs → All P ys
  order_all P unchanged h = h
  order_all P (once_more before after r s o) h =
      let a = order_all P o h in
      let b = all_right P before (r ∷ s ∷ after) a in
      all_append P before (s ∷ r ∷ after) (all_left P before (r ∷ s ∷ after) a) (b.1.0, (b.0, b.1.1))

  pub order_held : (i : ℕ) {ys : List (Run Site)} → Reordered xs ys → holders ys i ≡ holders xs i
  order_held i unchanged = refl
  order_held i (once_more before after r s o) =
      omega (
        arith,
        order_held i o,
        holders-append i before (s ∷ r ∷ after),
        holders-append i before (r ∷ s ∷ after),
        holders_one i s (r ∷ after),
        holders_one i r after,
        holders_one i r (s ∷ after),
        holders_one i s after,
      )
