-- The runs that a call writes, as records of a list: the cover that they have. Assumes nothing.
use Prim.Native.Nat.{ℕ, ◌+◌, ◌-◌, ◌<◌, ◌≤◌}
use native.Mathlib.Omega.{arith}
use native.Mathlib.Decide.{dec_lt}
use mathlib.Core.Path.{◌≡◌, refl, sym, ap, ◌∙◌}
use mathlib.Core.Bool.{Bool, true, false, cond}
use mathlib.Core.Logic.{◌⊎◌, inl, inr}
use mathlib.Core.List.{List, [], ◌∷◌, map}
use Rattle.slices.specs.Cover.{cover, over, layer, is_nothing}
use Rattle.slices.proofs.Laws.Cover.{over_nothing_right, layer_in, layer_before, layer_after, given-zero, given_byte}
use Rattle.slices.proofs.Laws.Sources.{Real}
use Rattle.runs.specs.Runs.{Run, Valid}
use Rattle.runs.proofs.Laws.Runs.{valid_le}
use Rattle.views.specs.View.{next, run_record, as_record}
use Rattle.views.specs.Inner.{shift, selected, wanted}
use Rattle.views.proofs.Laws.Next.{run_at}
use Rattle.views.proofs.Laws.ViewFrom.{selected-cons, selected_none}
use Rattle.slices.specs.declared.Record.{Record}
use Rattle.slices.specs.declared.Source.{Source}
use Rattle.slices.specs.declared.Source.TheVariants.{Nothing, Zero, Byte}

-- ---- a run's record

-- in a list it gives the run's sources, and a zero where they are nothing
layer_run : (at n : ℕ) (a : Source) (p : ℕ) → Real a → at ≤ p → p < at + n → layer (as_record at n a) p ≡ over (shift a (p - at)) Zero
unfolding as_record shift over
layer_run at n Nothing p e h k = layer_in (as_record at n Nothing) p h k ∙ given-zero (as_record at n Nothing) p refl
layer_run at n Zero p e h k = layer_in (as_record at n Zero) p h k ∙ given-zero (as_record at n Zero) p refl
layer_run at n (Byte i s o) p e h k = layer_in (as_record at n (Byte i s o)) p h k ∙ given_byte (as_record at n (Byte i s o)) p e.0

-- p is before `at`, or not before e
abbrev Out : ℕ → ℕ → ℕ → Type 0
Out at e p = (p < at) ⊎ (e ≤ p)

layer_out : (r : Record) (p : ℕ) → Out r.pos (r.pos + r.len) p → layer r p ≡ Nothing
layer_out r p (inl h) = layer_before r p h
layer_out r p (inr h) = layer_after r p h

layer_run_out : (at n : ℕ) (a : Source) (p : ℕ) → Out at (at + n) p → layer (as_record at n a) p ≡ Nothing
unfolding as_record
layer_run_out at n Nothing p h = layer_out (as_record at n Nothing) p h
layer_run_out at n Zero p h = layer_out (as_record at n Zero) p h
layer_run_out at n (Byte i s o) p h = layer_out (as_record at n (Byte i s o)) p h

-- ---- a run in front of others

-- what a source becomes in the list of all runs, where nothing becomes a zero, and in that of the covered ones
unfoldable pub laid : Bool → Source → Source
laid true a = over a Zero
laid false a = a

-- it lays its sources under theirs
cons_in : (all : Bool) (at n : ℕ) (a : Source) (rs : List (Run Source)) (p : ℕ) → Real a → at ≤ p → p < at + n
    → cover (map run_record (selected all (record { start = at; len = n; first = a } ∷ rs))) p
    ≡ over (cover (map run_record (selected all rs)) p) (laid all (shift a (p - at)))
unfolding cover wanted is_nothing shift laid
cons_in true at n a rs p e h k = rw (selected-cons true at n a rs, layer_run at n a p e h k)
cons_in false at n Nothing rs p e h k = rw (selected-cons false at n Nothing rs) (sym (over_nothing_right (cover (map run_record (selected false rs)) p)))
cons_in false at n Zero rs p e h k = rw (selected-cons false at n Zero rs, layer_run at n Zero p e h k)
cons_in false at n (Byte i s o) rs p e h k = rw (selected-cons false at n (Byte i s o) rs, layer_run at n (Byte i s o) p e h k)

-- and changes nothing elsewhere
cons_out : (all : Bool) (at n : ℕ) (a : Source) (rs : List (Run Source)) (p : ℕ) → Out at (at + n) p
    → cover (map run_record (selected all (record { start = at; len = n; first = a } ∷ rs))) p ≡ cover (map run_record (selected all rs)) p
unfolding cover
cons_out all at n a rs p h = rw (selected-cons all at n a rs) (go (wanted all a) (map run_record (selected all rs)))
  where
    go : (t : Bool) (xs : List Record) → cover (cond t (as_record at n a ∷ xs) xs) p ≡ cover xs p
    go true xs = rw (layer_run_out at n a p h) (over_nothing_right (cover xs p))
    go false xs = refl

-- ---- all of them

module _ (all : Bool) (f : ℕ → Source) (real : (p : ℕ) → Real (f p)) where
  pub cover_out : (at end : ℕ) (rs : List (Run Source)) → Valid next f at end rs → (p : ℕ) → Out at end p → cover (map run_record (selected all rs)) p ≡ Nothing
  unfolding cover
  cover_out at end [] v p h = rw (selected_none all)
  cover_out at end (r ∷ rs) v p (inl h) =
      cons_out all r.start r.len r.first rs p (inl (omega arith)) ∙ cover_out (at + r.len) end rs v.2 p (inl (omega arith))
  cover_out at end (r ∷ rs) v p (inr h) =
      cons_out all r.start r.len r.first rs p (inr (omega (arith, valid_le next f (at + r.len) end rs v.2)))
      ∙ cover_out (at + r.len) end rs v.2 p (inr h)

  pub cover_in : (at end : ℕ) (rs : List (Run Source)) → Valid next f at end rs → (p : ℕ) → at ≤ p → p < end → cover (map run_record (selected all rs)) p ≡ laid all (f p)
  unfolding over
  cover_in at end [] v p h k = absurd (omega arith)
  cover_in at end (r ∷ rs) v p h k = go (dec_lt p (at + r.len)) (cover_in (at + r.len) end rs v.2 p)
    where
      go : Dec (p < at + r.len) → (at + r.len ≤ p → p < end → cover (map run_record (selected all rs)) p ≡ laid all (f p))
          → cover (map run_record (selected all (r ∷ rs))) p ≡ laid all (f p)
      go (yes l) ih =
          cons_in all r.start r.len r.first rs p (rw v.0.first_is (real at)) (omega arith) (omega arith)
          ∙ rw (cover_out (at + r.len) end rs v.2 p (inl l)) (ap (laid all) (sym (run_at f at r v.0 p h l)))
      go (no l) ih = cons_out all r.start r.len r.first rs p (inr (omega arith)) ∙ ih (omega arith) k
