-- A list covers a position exactly where one of its records does. Assumes nothing.
use Prim.Native.Nat.{ℕ, ◌+◌, ◌-◌}
use native.Mathlib.Decide.{dec_lt}
use native.Mathlib.Omega.{arith}
use mathlib.Core.Bool.{Bool, true, false, cond, not, ◌||◌}
use mathlib.Core.Path.{◌≡◌, refl, ap, ◌∙◌}
use mathlib.Core.List.{List, [], ◌∷◌}
use lib.Dec.{eqb}
use Rattle.slices.specs.Cover.{cover, over, layer, given, covers, is_nothing}
use Rattle.slices.proofs.Laws.Cover.{covers_before, covers_after}
use Rattle.compaction.specs.Span.{is_covered}
use Rattle.slices.specs.declared.Record.{Record}
use Rattle.slices.specs.declared.Source.{Source}
use Rattle.slices.specs.declared.Source.TheVariants.{Nothing, Zero, Byte}

over_covered : (a b : Source) → not (is_nothing (over a b)) ≡ (not (is_nothing a) || not (is_nothing b))
unfolding is_nothing over
over_covered Nothing b = refl
over_covered Zero b = refl
over_covered (Byte i z o) b = refl

layer_covered : (r : Record) (p : ℕ) → not (is_nothing (layer r p)) ≡ covers r p
unfolding layer given is_nothing
layer_covered r p = go (covers r p) (eqb r.id 0)
  where
    go : (x y : Bool) → not (is_nothing (cond x (cond y Zero (Byte r.id r.size (r.off + (p - r.pos)))) Nothing)) ≡ x
    go true true = refl
    go true false = refl
    go false y = refl

covered-cons : (r : Record) (rs : List Record) (p : ℕ) → is_covered (r ∷ rs) p ≡ (is_covered rs p || covers r p)
unfolding is_covered cover
covered-cons r rs p = over_covered (cover rs p) (layer r p) ∙ ap (λ (b : Bool). not (is_nothing (cover rs p)) || b) (layer_covered r p)

pub covered-nil : (p : ℕ) → is_covered [] p ≡ false
unfolding is_covered cover is_nothing
covered-nil p = refl

or_right : (a b : Bool) → b ≡ true → (a || b) ≡ true
or_right true b e = refl
or_right false b e = e

pub covers_empty : (r : Record) (p : ℕ) → r.len ≡ 0 → covers r p ≡ false
covers_empty r p e = elim (dec_lt p r.pos) [ yes h ↦ covers_before r p h | no h ↦ covers_after r p (omega arith) ]

-- whether a list covers p, given whether the rest does
module _ (r : Record) (rs : List Record) (p : ℕ) where
  pub none : is_covered rs p ≡ false → covers r p ≡ false → is_covered (r ∷ rs) p ≡ false
  none e d = covered-cons r rs p ∙ rw (e, d)

  pub rest : is_covered rs p ≡ true → is_covered (r ∷ rs) p ≡ true
  rest e = covered-cons r rs p ∙ rw e

  pub here : covers r p ≡ true → is_covered (r ∷ rs) p ≡ true
  here e = covered-cons r rs p ∙ or_right (is_covered rs p) (covers r p) e
