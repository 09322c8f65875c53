-- Room for so many records. Assumes nothing.
use Prim.Native.Nat.{ℕ, ◌+◌, ◌/◌, ◌<◌, ◌≤◌}
use native.Mathlib.Omega.{arith}
use native.Mathlib.Nat.{mul-div_cancel}
use mathlib.Core.Path.{◌≡◌, refl, sym, ap, ◌∙◌}
use mathlib.Core.List.{List}
use lib.ListN.{length}
use mathlib.Core.Bool.{Bool, true, false}
use borrow.Author.Tests.{le-ltb, ltb-false}
use Rattle.codec.specs.Splice.{splice}
use Rattle.slices.specs.Limits.{chunk, record_size}
use Rattle.outcomes.specs.Answers.{Answers}
use Rattle.slices.specs.Record.{records, encode_all}
use Rattle.outcomes.proofs.Laws.Outcome.{short_refused, short_done}
use Rattle.outcomes.proofs.Laws.Answers.{answers_refusal, answers_done}
use Rattle.slices.proofs.Laws.Record.{length-encode_all}
use Rattle.outcomes.specs.Numbers as number
use Rattle.outcomes.specs.Outcome.{refusal, delivered}
use Rattle.std.specs.Prelude.{Ok, Err}
use Rattle.outcomes.specs.Outcome.{Refusal}
use Rattle.resolve.specs.Resolved.{Resolved}
use Rattle.views.specs.Calls.{max_tidied}
use Rattle.views.specs.Inner.{view_from, too_long, Roomy, runs_outcome}
use Rattle.views.proofs.Laws.Segments.{view_few}
use Rattle.views.proofs.Laws.Calls.{runs_11, runs_accepted}

-- two marks and two tops a record
pub fits : (n k : ℕ) → n ≤ k → (n + n + 1 < k + k + 2) × (n + n < k + k + 1)
fits n k h = (omega arith, omega arith)

-- fewer are not too many either
pub short_less : (all : Bool) (m n : ℕ) → too_long all m ≡ false → n ≤ m → too_long all n ≡ false
unfolding too_long
short_less true m n h l = refl
short_less false m n h l = le-ltb max_tidied n (omega (arith, ltb-false max_tidied m h))

-- ---- as many records as segments have room

module _ (all : Bool) (bs marks tops : List ℕ) (m end room : ℕ) (r : Resolved bs marks tops m chunk) (g : end ≤ chunk) (y : Roomy all m room) where
  pub roomy_fits : length (encode_all (view_from all (records bs) 0 end)) ≤ room
  roomy_fits =
      let vs = view_from all (records bs) 0 end in
      omega (arith, length-encode_all vs, view_few bs marks tops m r all end g, y.fits)

  pub roomy_answers : (out after : List ℕ) (n : ℕ) → n ≡ length (encode_all (view_from all (records bs) 0 end))
      → after ≡ splice out 0 (encode_all (view_from all (records bs) 0 end)) → Answers (runs_outcome all bs end room) out (Ok n) after
  roomy_answers out after n e a =
      let vs = view_from all (records bs) 0 end in
      answers_done (runs_outcome all bs end room) (encode_all vs) out after n
      (runs_accepted all bs end room (length vs) refl (y.short (length vs) (view_few bs marks tops m r all end g)) ∙ short_done (encode_all vs) room roomy_fits)
      (sym e) a

-- ---- they were counted first

module _ (all : Bool) (bs : List ℕ) (end : ℕ) (out out' : List ℕ) (same : out' ≡ out) (need : ℕ) (e : need ≡ length (encode_all (view_from all (records bs) 0 end))) where
  counted : need / record_size ≡ length (view_from all (records bs) 0 end)
  counted = ap (λ (k : ℕ). k / record_size) (e ∙ length-encode_all (view_from all (records bs) 0 end)) ∙ mul-div_cancel (length (view_from all (records bs) 0 end)) (omega arith)

  pub counted_long : (t : Bool) → t ≡ too_long all (need / record_size) → t ≡ true → (r : Refusal) → r ≡ refusal number.tidied_too_long 0
      → Answers (runs_outcome all bs end (length out)) out (Err r) out'
  counted_long t h k r g = rw same (answers_refusal _ _ _ _ (runs_11 all bs end (length out) (need / record_size) counted (sym h ∙ k)) g)

  module _ (t : Bool) (h : t ≡ too_long all (need / record_size)) (k : t ≡ false) where
    delivers : runs_outcome all bs end (length out) ≡ delivered (encode_all (view_from all (records bs) 0 end)) (length out)
    delivers = runs_accepted all bs end (length out) (need / record_size) counted (sym h ∙ k)

    pub counted_short : length out' < need → (r : Refusal) → r ≡ refusal number.short_buffer 0 → Answers (runs_outcome all bs end (length out)) out (Err r) out'
    counted_short l r g = rw same (answers_refusal _ _ _ _ (delivers ∙ short_refused (encode_all (view_from all (records bs) 0 end)) (length out) (omega (arith, e, ap length same))) g)

    pub counted_done : need ≤ length out' → (after : List ℕ) (n : ℕ) → n ≡ length (encode_all (view_from all (records bs) 0 end))
        → after ≡ splice out' 0 (encode_all (view_from all (records bs) 0 end)) → Answers (runs_outcome all bs end (length out)) out (Ok n) after
    counted_done l after n f a =
        answers_done _ _ _ _ _ (delivers ∙ short_done (encode_all (view_from all (records bs) 0 end)) (length out) (omega (arith, e, ap length same))) (sym f)
        (a ∙ ap (λ (o : List ℕ). splice o 0 (encode_all (view_from all (records bs) 0 end))) same)
