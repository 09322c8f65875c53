-- A view fed back as a list: below its chunk length its holes have become zeros, and nothing else has changed. Assumes nothing.
use Prim.Native.Nat.{ℕ, ◌%◌, ◌<◌, ◌≤◌, zero-le}
use native.Mathlib.Omega.{arith}
use native.Mathlib.Decide.{dec_lt}
use mathlib.Core.Path.{◌≡◌, refl, sym, ap, ◌∙◌}
use mathlib.Core.Bool.{true, false≢true}
use mathlib.Core.Logic.{◌≢◌, ◌↔◌, inr}
use mathlib.Core.List.{List, [], ◌∷◌}
use lib.ListN.{length, take}
use borrow.Author.Tests.{lt-ltb, le-ltb}
use Rattle.codec.specs.All.{All, Bytes}
use Rattle.outcomes.specs.Answers.{Answers}
use Rattle.outcomes.specs.Numbers as number
use Rattle.outcomes.specs.Outcome.{done, row, first_of}
use Rattle.slices.specs.Limits.{record_size, chunk, max_records}
use Rattle.slices.specs.Accepts.{Accepts}
use Rattle.slices.specs.Cover.{cover, over, is_nothing, SameCover}
use Rattle.slices.specs.Passes.{Passes}
use Rattle.slices.specs.Record.{count, records}
use Rattle.slices.proofs.Laws.Record.{length-encode_all}
use Rattle.slices.specs.Refusals.{too_many, check_outcome}
use Rattle.slices.proofs.Laws.Refusals.{check_2, accepted_exactly}
use Rattle.slices.proofs.Laws.Sources.{cover_real}
use Rattle.views.specs.View.{view_runs, view}
use Rattle.views.specs.Inner.{selected}
use Rattle.views.specs.Calls.{view_bytes, view_outcome}
use Rattle.views.specs.Again.{Again, AgainBytes}
use Rattle.views.proofs.Laws.Fits.{view_passes}
use Rattle.views.proofs.Laws.OneSize.{view_one_size}
use Rattle.views.proofs.Laws.RunCover.{laid, cover_in, cover_out}
use Rattle.views.proofs.Laws.ViewBack.{view_back, view_wrote}
use Rattle.views.proofs.Laws.ViewSource.{view_divides}
use Rattle.slices.specs.declared.Record.{Record}
use Rattle.slices.specs.declared.Source.{Source}
use Rattle.slices.specs.declared.Source.TheVariants.{Nothing, Zero, Byte}
use Rattle.std.specs.Prelude.{Ok}

-- ---- as records

over_some : (a b : Source) → a ≢ Nothing → over a b ≡ a
unfolding over
over_some Nothing b h = absurd (h refl)
over_some Zero b h = refl
over_some (Byte i s o) b h = refl

module _ (rs : List Record) (h : All Passes rs) (l : ℕ) where
  -- as if the list were laid over zeros
  below : (p : ℕ) → p < l → cover (view rs l) p ≡ over (cover rs p) Zero
  unfolding view selected laid
  below p k = cover_in true (cover rs) (cover_real rs h) 0 l (view_runs rs l) (view_divides rs l) p zero-le k

  beyond : (p : ℕ) → l ≤ p → cover (view rs l) p ≡ Nothing
  unfolding view selected
  beyond p k = cover_out true (cover rs) (cover_real rs h) 0 l (view_runs rs l) (view_divides rs l) p (inr k)

  pub view_again : l ≤ chunk → Again rs (view rs l) l
  unfolding over
  view_again c =
      record {
        passes = view_passes rs h l c;
        covered = λ p k e. below p k ∙ over_some (cover rs p) Zero e;
        hole = λ p k e. below p k ∙ rw e;
        past = beyond;
      }

  -- it is the list's own cover exactly where the list has no hole below l and nothing at or past l
  pub view_again_same : l ≤ chunk → SameCover (view rs l) rs ↔ ((p : ℕ) → p < chunk → (p < l → cover rs p ≢ Nothing) × (l ≤ p → cover rs p ≡ Nothing))
  unfolding is_nothing
  view_again_same c = (
    (λ same p k. (
      (λ b e. false≢true (ap is_nothing (sym ((view_again c).hole p b e) ∙ same p k ∙ e))),
      (λ b. sym (same p k) ∙ (view_again c).past p b),
    )),
    (λ h p k. go p (h p k) (dec_lt p l)),
  )
    where
      go : (p : ℕ) → (p < l → cover rs p ≢ Nothing) × (l ≤ p → cover rs p ≡ Nothing) → Dec (p < l) → cover (view rs l) p ≡ cover rs p
      go p h (yes b) = (view_again c).covered p b (h.0 b)
      go p h (no b) = (view_again c).past p (omega arith) ∙ sym (h.1 (omega arith))

  -- "any holes have become zeros, another cover"
  pub view_again_other : l ≤ chunk → (p : ℕ) → p < l → cover rs p ≡ Nothing → ¬ SameCover (view rs l) rs
  view_again_other c p b e same = ((view_again_same c).0 same p (omega arith)).0 b e

-- ---- as bytes

module _ (bs : List ℕ) (b : Bytes bs) where
  pub view_again_bytes : Accepts bs → (l : ℕ) → l ≤ chunk → AgainBytes bs (view_bytes bs l) l
  unfolding view_bytes too_many first_of
  view_again_bytes a l c =
      record {
        checks = go (dec_lt max_records (count (view_bytes bs l)));
        means = rw (view_back bs b a.pass l c) again;
      }
    where
      again : Again (records bs) (view (records bs) l) l
      again = view_again (records bs) a.pass l c

      whole : length (view_bytes bs l) % record_size ≡ 0
      whole = omega (arith, length-encode_all (view (records bs) l))

      go : Dec (max_records < count (view_bytes bs l))
          → check_outcome (view_bytes bs l) ≡ first_of (row (too_many (view_bytes bs l)) number.too_many 0 ∷ []) (done (count (view_bytes bs l)))
      go (yes k) = check_2 (view_bytes bs l) whole k ∙ rw (lt-ltb max_records (count (view_bytes bs l)) k)
      go (no k) =
          (accepted_exactly (view_bytes bs l)).1 (
          record {
            whole = whole;
            few = omega arith;
            pass = rw (view_back bs b a.pass l c) again.passes;
            one_size = rw (view_back bs b a.pass l c) (view_one_size (records bs) a.one_size l c);
          }
          )
          ∙ rw (le-ltb max_records (count (view_bytes bs l)) (omega arith))

  -- of the bytes that the call wrote
  pub view_wrote_again : (l : ℕ) (before after : List ℕ) (n : ℕ) → Answers (view_outcome bs l (length before)) before (Ok n) after → AgainBytes bs (take n after) l
  view_wrote_again l before after n a =
      let w = view_wrote bs b l before after n a in
      rw w.2.front (view_again_bytes w.0 l w.1)
