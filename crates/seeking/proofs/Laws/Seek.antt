-- What a search answers, case by case; and what it gives is a segment that holds the position. Assumes nothing.
use Prim.Native.Nat.{ℕ, ◌%◌, min}
use native.Mathlib.Omega.{arith}
use native.Mathlib.Decide.{ℕ_discrete}
use mathlib.Core.Path.{◌≡◌, refl, sym, ap, ◌∙◌}
use mathlib.Core.Bool.{Bool, true, false, cond}
use Rattle.slices.specs.Cover.{covers}
use Rattle.seeking.specs.Claims.{Holds}
use Rattle.seeking.proofs.Laws.Halve.{halve_below}
use mathlib.Core.List.{List}
use lib.ListN.{length}
use borrow.Author.Tests.{eq-eqb, ne_eqb}
use Rattle.outcomes.specs.Numbers as number
use Rattle.outcomes.specs.Outcome.{refused, done, refusal, first_of}
use Rattle.outcomes.proofs.Laws.Outcome.{row_holds}
use Rattle.slices.specs.Limits.{record_size}
use Rattle.slices.specs.Record.{count, record_at}
use Rattle.slices.specs.Refusals.{not_whole}
use Rattle.slices.specs.declared.Record.{Record}
use Rattle.seeking.specs.Seek.{numbered, halve, if_held, seek, seek_view}
use Rattle.seeking.specs.declared.Found.{Found}
use Rattle.std.specs.Prelude.{Option, Some, None}

-- ---- among the first n segments of a row

module _ (row : ℕ → Record) (n p : ℕ) where
  pub seek_none : n ≡ 0 → None ≡ seek row n p
  unfolding seek
  seek_none e = rw (eq-eqb n 0 e)

  -- the segment at which halving ends is tested
  pub seek_tested : (n ≡ 0 → ⊥) → (k : ℕ) (r : Record) (f : Option Found) → k ≡ halve (λ (i : ℕ). (row i).pos) p n 0 n → r ≡ row k → f ≡ if_held p k r → f ≡ seek row n p
  unfolding seek
  seek_tested h k r f ek er ef = rw (ne_eqb n 0 h) (rw (← ek, ← er) ef)

-- whatever the row holds, what is given is one of its first n segments and holds the position
pub found_holds : (row : ℕ → Record) (n p k : ℕ) (r : Record) → seek row n p ≡ Some (numbered k r) → Holds row n p k r
unfolding if_held
found_holds row n p k r h = go (ℕ_discrete n 0)
  where
    e : ℕ
    e = halve (λ (i : ℕ). (row i).pos) p n 0 n

    tested : (n ≡ 0 → ⊥) → (t : Bool) → covers (row e) p ≡ t → cond t (Some (numbered e (row e))) None ≡ Some (numbered k r) → Holds row n p k r
    tested z true c q =
        let f : numbered e (row e) ≡ numbered k r = cc in
        let i : e ≡ k = ap (λ (x : Found). x.number) f in
        let s : row e ≡ r = ap (λ (x : Found). x.segment) f in
        record { within = rw (← i) (halve_below (λ (i : ℕ). (row i).pos) p n (omega arith)); same = sym s ∙ ap row i; held = rw (← s) c }
    tested z false c q = let z : ◌≡◌ {A = ℕ} 0 1 = cc in absurd (omega arith)

    go : Dec (n ≡ 0) → Holds row n p k r
    go (yes z) = let q = seek_none row n p z ∙ h in let z : ◌≡◌ {A = ℕ} 0 1 = cc in absurd (omega arith)
    go (no z) = tested z (covers (row e) p) refl (seek_tested row n p z e (row e) (if_held p e (row e)) refl refl refl ∙ h)

-- ---- in bytes

module _ (bs : List ℕ) (segments p : ℕ) where
  pub view_1 : (length bs % record_size ≡ 0 → ⊥) → seek_view bs segments p ≡ refused (refusal number.not_whole 0)
  unfolding seek_view not_whole
  view_1 h = row_holds _ _ _ _ _ (rw (ne_eqb (length bs % record_size) 0 h))

  pub view_whole : length bs % record_size ≡ 0 → seek_view bs segments p ≡ done (seek (record_at bs) (min segments (count bs)) p)
  unfolding seek_view not_whole first_of
  view_whole h = rw (eq-eqb (length bs % record_size) 0 h)
