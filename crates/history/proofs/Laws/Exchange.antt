-- Neighbouring records whose ranges share no byte can change places: the cover stays.
-- Assumes nothing.
use Prim.Native.Nat.{ℕ, ◌+◌, ◌≤◌}
use native.Mathlib.Omega.{arith}
use mathlib.Core.Path.{◌≡◌, refl, sym, ap, ◌∙◌}
use mathlib.Core.Bool.{Bool, true, false, false≢true}
use mathlib.Core.List.{List, ◌∷◌, ◌++◌}
use Rattle.slices.specs.Cover.{cover, covers, over, layer}
use Rattle.slices.proofs.Laws.Cover.{over_nothing_left, over_nothing_right, over_assoc, cover-append, covers_range, layer_not}
use Rattle.history.specs.Exchange.{Apart, Exchange}
use Rattle.slices.specs.declared.Record.{Record}
use Rattle.slices.specs.declared.Source.{Source}

-- ---- records that share no byte

covers_not : (r : Record) (p : ℕ) → (covers r p ≡ true → ◌≡◌ {A = ℕ} 0 1) → covers r p ≡ false
covers_not r p f = go (covers r p) refl
  where
    go : (t : Bool) → covers r p ≡ t → covers r p ≡ false
    go true e = let z = f e in absurd (omega arith)
    go false e = e

pub apart_sym : (r s : Record) → Apart r s → Apart s r
apart_sym r s a p h = covers_not r p (λ g. absurd (false≢true (sym (a p g) ∙ h)))

-- one range ends before the other starts
pub ranges_apart : (r s : Record) → r.pos + r.len ≤ s.pos → Apart r s
ranges_apart r s l p h = covers_not s p (λ g. absurd (let a = covers_range r p h in let b = covers_range s p g in omega arith))

-- an empty record shares no byte with any other
pub empty_apart : (r s : Record) → r.len ≡ 0 → Apart r s
empty_apart r s e p h = absurd (let a = covers_range r p h in omega arith)

-- ---- two neighbours

pub neighbours_exchange : (before after : List Record) (r s : Record) → Apart r s → Exchange (before ++ (r ∷ s ∷ after)) (before ++ (s ∷ r ∷ after))
neighbours_exchange before after r s a = record { before = before; after = after; first = r; second = s; apart = a; from = refl; to = refl }

-- ---- the cover stays

apart_layers : (r s : Record) → Apart r s → (p : ℕ) → over (layer s p) (layer r p) ≡ over (layer r p) (layer s p)
apart_layers r s a p = go (covers r p) refl
  where
    go : (t : Bool) → covers r p ≡ t → over (layer s p) (layer r p) ≡ over (layer r p) (layer s p)
    go true e = rw (layer_not s p (a p e)) (over_nothing_left (layer r p) ∙ sym (over_nothing_right (layer r p)))
    go false e = rw (layer_not r p e) (over_nothing_right (layer s p) ∙ sym (over_nothing_left (layer s p)))

pub exchange_cover : (xs ys : List Record) → Exchange xs ys → (p : ℕ) → cover xs p ≡ cover ys p
unfolding cover
exchange_cover xs ys e p =
    let r = e.first in
    let s = e.second in
    let swap : over (over (cover e.after p) (layer s p)) (layer r p) ≡ over (over (cover e.after p) (layer r p)) (layer s p) =
    over_assoc (cover e.after p) (layer s p) (layer r p)
    ∙ ap (over (cover e.after p)) (apart_layers r s e.apart p)
    ∙ sym (over_assoc (cover e.after p) (layer r p) (layer s p)) in
    ap (λ (rs : List Record). cover rs p) e.from
    ∙ cover-append e.before (r ∷ s ∷ e.after) p
    ∙ ap (λ (upper : Source). over upper (cover e.before p)) swap
    ∙ sym (cover-append e.before (s ∷ r ∷ e.after) p)
    ∙ ap (λ (rs : List Record). cover rs p) (sym e.to)
