-- The cover of the first records of a list, from the last of them down. Assumes nothing.
use Prim.Native.Nat.{ℕ, suc, ◌-◌, ◌<◌, ◌≤◌}
use native.Mathlib.Omega.{arith}
use mathlib.Core.Path.{◌≡◌, ap, ◌∙◌}
use mathlib.Core.Bool.{true, false}
use mathlib.Core.List.{List, [], ◌∷◌}
use Rattle.codec.specs.Groups.{groups_from}
use Rattle.slices.specs.Cover.{cover, over, layer, given, covers}
use Rattle.slices.specs.Record.{record_at, records_from}
use Rattle.slices.proofs.Laws.Cover.{cover-append, over_nothing_left, layer_covered, layer_not, given_over}
use Rattle.slices.proofs.Laws.Record.{records_more}
use Rattle.slices.specs.declared.Record.{Record}
use Rattle.slices.specs.declared.Source.{Source}
use Rattle.slices.specs.declared.Source.TheVariants.{Nothing}

module _ (bs : List ℕ) (p : ℕ) where
  -- the source that the first i records give
  abbrev pub cover_of : ℕ → Source
  cover_of i = cover (records_from bs 0 i) p

  cover_one : (r : Record) → cover (r ∷ []) p ≡ layer r p
  unfolding cover
  cover_one r = over_nothing_left (layer r p)

  cover_last : (i : ℕ) → 0 < i → cover_of i ≡ over (layer (record_at bs (i - 1)) p) (cover_of (i - 1))
  cover_last i h =
      let e : i ≡ suc (i - 1) = omega arith in
      ap cover_of e
      ∙ ap (λ (rs : List Record). cover rs p) (records_more bs (i - 1))
      ∙ cover-append (records_from bs 0 (i - 1)) (record_at bs (i - 1) ∷ []) p
      ∙ ap (λ (s : Source). over s (cover_of (i - 1))) (cover_one (record_at bs (i - 1)))

  -- the last of i records does not cover p
  pub cover_skip : (i : ℕ) → 0 < i → covers (record_at bs (i - 1)) p ≡ false → cover_of i ≡ cover_of (i - 1)
  cover_skip i h e = cover_last i h ∙ rw (layer_not (record_at bs (i - 1)) p e) (over_nothing_left (cover_of (i - 1)))

  -- the last of i records covers p
  pub cover_hit : (i : ℕ) → 0 < i → covers (record_at bs (i - 1)) p ≡ true → cover_of i ≡ given (record_at bs (i - 1)) p
  cover_hit i h e = cover_last i h ∙ rw (layer_covered (record_at bs (i - 1)) p e) (given_over (record_at bs (i - 1)) p (cover_of (i - 1)))

  pub cover_none : (i : ℕ) → i ≤ 0 → cover_of i ≡ Nothing
  unfolding cover records_from groups_from
  cover_none i h =
      let e : i ≡ 0 = omega arith in
      rw e
