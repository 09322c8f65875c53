-- How many pieces a plan can have: two a run of the cover, and one a block. Assumes nothing.
use Prim.Native.Nat.{ℕ, zero, suc, ◌+◌, ◌-◌, ◌*◌, ◌/◌, ◌%◌, ◌≤◌, ◌<◌}
use native.Mathlib.Omega.{arith}
use native.Mathlib.Nat.{add-mul, suc-mul, add-div_right, div-add-mod', mul-mod_left, add-mod_right, div-mul-le_self, le-div_iff_mul-le, mod-lt}
use native.Mathlib.Decide.{dec_lt}
use mathlib.Core.Path.{◌≡◌, refl, sym, ap, ◌∙◌}
use mathlib.Core.List.{List, [], ◌∷◌}
use lib.ListN.{length, length-map}
use Rattle.slices.specs.Limits.{chunk}
use Rattle.slices.specs.Cover.{cover}
use Rattle.slices.specs.Record.{records}
use Rattle.slices.specs.declared.Record.{Record}
use Rattle.slices.specs.declared.Source.{Source}
use Rattle.slices.specs.declared.Source.TheVariants.{Nothing, Zero, Byte}
use Rattle.resolve.specs.Resolved.{Resolved}
use Rattle.resolve.proofs.Laws.Resolved.{resolved_some}
use Rattle.resolve.proofs.Laws.Tops.{id_of}
use Rattle.runs.specs.Runs.{Run, runs, Valid}
use Rattle.runs.specs.Inner.{Unbroken}
use Rattle.runs.proofs.Laws.Runs.{runs_valid, valid_le}
use Rattle.runs.proofs.Laws.Walk.{value_at}
use Rattle.views.specs.View.{next}
use Rattle.views.specs.Inner.{shift}
use Rattle.views.proofs.Laws.Count.{unbroken_length, few_runs}
use Rattle.views.proofs.Laws.Next.{next_is, shift_zero}
use Rattle.views.proofs.Laws.Segments.{segments_runs}
use Rattle.plans.specs.Inner.{InBlock}
use Rattle.plans.specs.Location.{location_at, next_location}
use Rattle.plans.specs.Piece.{piece_size, chunk_bytes}
use Rattle.plans.specs.Plan.{pieces}
use Rattle.plans.proofs.Laws.Locations.{block_hole, block_byte, locations_on}
use Rattle.plans.proofs.Laws.Pieces.{length-chunk_bytes}
use Rattle.plans.proofs.Laws.Walk.{left_all}

-- whole blocks of two parts are whole blocks of both together
pub blocks_both : (B a b : ℕ) → 0 < B → a / B + b / B ≤ (a + b) / B
blocks_both B a b h = (le-div_iff_mul-le {k = B} {x = a / B + b / B} {y = a + b} h).1 (omega (arith, add-mul (a / B) (b / B) B, div-mul-le_self a B, div-mul-le_self b B))

module _ (B end : ℕ) (some : 0 < B) (rs : List Record) where
  -- the pieces from q on
  abbrev left : ℕ → ℕ
  left q = length (runs next_location (location_at B rs) q (end - q))

  step : (p e : ℕ) → Unbroken next_location (location_at B rs) p end e → left p ≤ suc (left e)
  step p e u = unbroken_length next_location (location_at B rs) p end e u

  -- ---- where the cover goes on from `at` up to E

  module _ (at E : ℕ) (u : Unbroken next (cover rs) at end E) where
    goes_on : (p : ℕ) → at ≤ p → p < E → Unbroken next (cover rs) p end E
    goes_on p a b = record { some = b; inside = u.inside; joins = λ q x y. u.joins q (omega arith) y }

    module _ (i z o : ℕ) (is : cover rs at ≡ Byte i z o) where
      abbrev offset : ℕ → ℕ
      offset p = o + (p - at)

      byte_at : (p : ℕ) → at ≤ p → p < E → Byte i z (offset p) ≡ cover rs p
      unfolding shift
      byte_at p a b =
          let e : at + (p - at) ≡ p = omega arith in
          let v = value_at next shift shift_zero next_is (cover rs) at end E u (p - at) (omega arith) in
          sym (rw (e, is) at v)

      byte_step : (p d : ℕ) → at ≤ p → p < E → 0 < d → d ≤ E - p → d ≤ B - offset p % B → left p ≤ suc (left (p + d))
      byte_step p d a b x y w =
          step p (p + d) (locations_on B rs p end E d (Byte i z (offset p)) (goes_on p a b) (byte_at p a b) (block_byte B i z (offset p) (E - p) d x y w))

      -- from the start of a block
      from_start : (d p : ℕ) → E ≤ p + d → at ≤ p → p < E → offset p % B ≡ 0 → left p ≤ (E - p) / B + 1 + left E
      from_start zero p h a b w = absurd (omega arith)
      from_start (suc d) p h a b w = go (dec_lt B (E - p)) (from_start d (p + B))
        where
          go : Dec (B < E - p)
              → (E ≤ p + B + d → at ≤ p + B → p + B < E → offset (p + B) % B ≡ 0 → left (p + B) ≤ (E - (p + B)) / B + 1 + left E)
              → left p ≤ (E - p) / B + 1 + left E
          go (yes x) ih =
              let e : offset (p + B) ≡ offset p + B = omega arith in
              let y = ih (omega arith) (omega arith) (omega arith) (ap (λ (n : ℕ). n % B) e ∙ add-mod_right (offset p) B ∙ w) in
              let v : E - p ≡ E - (p + B) + B = omega arith in
              let t : (E - p) / B ≡ (E - (p + B)) / B + 1 = ap (λ (n : ℕ). n / B) v ∙ add-div_right (E - (p + B)) some in
              omega (arith, byte_step p B a b some (omega arith) (omega arith), y, t)
          go (no x) ih =
              let q : p + (E - p) ≡ E = omega arith in
              omega (arith, rw q at (byte_step p (E - p) a b (omega arith) (omega arith) (omega arith)))

      -- from anywhere
      from_any : left at ≤ (E - at) / B + 2 + left E
      from_any = go (dec_lt (B - offset at % B) (E - at))
        where
          go : Dec (B - offset at % B < E - at) → left at ≤ (E - at) / B + 2 + left E
          go (yes x) =
              let d = B - offset at % B in
              let t = mod-lt (offset at) some in
              let e : offset (at + d) ≡ suc (offset at / B) * B = omega (arith, div-add-mod' (offset at) B, suc-mul (offset at / B) B) in
              let v : E - (at + d) + d ≡ E - at = omega arith in
              let y = from_start E (at + d) (omega arith) (omega arith) (omega arith) (ap (λ (n : ℕ). n % B) e ∙ mul-mod_left (suc (offset at / B)) B) in
              omega (arith, byte_step at d (omega arith) u.some (omega arith) (omega arith) (omega arith), y, rw v at (blocks_both B (E - (at + d)) d some))
          go (no x) =
              let q : at + (E - at) ≡ E = omega (arith, u.some) in
              omega (arith, rw q at (byte_step at (E - at) (omega arith) u.some (omega (arith, u.some)) (omega arith) (omega arith)))

    hole_step : (s : Source) → s ≡ cover rs at → InBlock B s (E - at) (E - at) → left at ≤ (E - at) / B + 2 + left E
    hole_step s e b =
        let q : at + (E - at) ≡ E = omega (arith, u.some) in
        omega (arith, rw q at (step at (at + (E - at)) (locations_on B rs at end E (E - at) s u e b)))

    one_run : left at ≤ (E - at) / B + 2 + left E
    unfolding id_of
    one_run = go (cover rs at) refl
      where
        l : 0 < E - at
        l = omega (arith, u.some)

        go : (s : Source) → cover rs at ≡ s → left at ≤ (E - at) / B + 2 + left E
        go Nothing e = hole_step Nothing (sym e) (block_hole B Nothing (E - at) tt refl l)
        go Zero e = hole_step Zero (sym e) (block_hole B Zero (E - at) tt refl l)
        go (Byte i z o) e = from_any i z o e

  -- ---- over all runs

  none_left : left end ≡ 0
  unfolding runs
  none_left =
      let e : end - end ≡ 0 = omega arith in
      rw e

  all_left : (p : ℕ) (xs : List (Run Source)) → Valid next (cover rs) p end xs → left p ≤ length xs + length xs + (end - p) / B
  all_left p [] v = rw v (omega (arith, none_left))
  all_left p (r ∷ xs) v =
      let E = p + r.len in
      let h : E ≤ end = valid_le next (cover rs) E end xs v.2 in
      let u : Unbroken next (cover rs) p end E = record { some = omega (arith, v.0.some); inside = h; joins = v.0.inside } in
      let w : E - p + (end - E) ≡ end - p = omega arith in
      omega (arith, one_run p E u, all_left E xs v.2, rw w at (blocks_both B (E - p) (end - E) some))

  plan_few : (from : ℕ) → from ≤ end → length (pieces B rs from (end - from))
      ≤ length (runs next (cover rs) from (end - from)) + length (runs next (cover rs) from (end - from)) + (end - from) / B
  plan_few from l =
      rw (← left_all B rs 0 from end, length-map)
      (all_left from (runs next (cover rs) from (end - from)) (runs_valid next (cover rs) from (end - from) end (omega arith)))

  -- ---- the plan of n records: 4 n + 2 pieces, and one a block

  pub plan_most : (from : ℕ) → from ≤ end → length (pieces B rs from (end - from)) ≤ 4 * length rs + 2 + (end - from) / B
  plan_most from l = omega (arith, plan_few from l, few_runs rs from (end - from))

-- ---- the plan of a resolved list: two pieces a segment, and one a block

pub plan_room_lem : (B end : ℕ) → 0 < B → (bs marks tops : List ℕ) (m : ℕ) → Resolved bs marks tops m chunk → end ≤ chunk → (index before from room : ℕ) → from < end
    → (m + m + (end - from) / B) * piece_size ≤ room → length (chunk_bytes index before (pieces B (records bs) from (end - from))) ≤ room
plan_room_lem B end some bs marks tops m r g index before from room l h =
    let t = resolved_some bs marks tops m chunk r from (omega arith) in
    let s = segments_runs bs marks tops m r m t.0 from end (omega arith) l g t.1 in
    omega (arith, length-chunk_bytes index before (pieces B (records bs) from (end - from)), plan_few B end some (records bs) from (omega arith), s)
