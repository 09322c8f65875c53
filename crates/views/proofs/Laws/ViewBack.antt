-- The bytes of a view are read back as the view, and what `view` wrote gives each position its source. Assumes nothing.
use Prim.Native.Nat.{ℕ, ◌<◌, ◌≤◌}
use mathlib.Core.Path.{◌≡◌, refl, ap, ◌∙◌}
use mathlib.Core.Bool.{false}
use mathlib.Core.List.{List, []}
use lib.ListN.{length, take}
use borrow.Author.Tests.{ltb-false}
use Rattle.codec.specs.All.{All, Bytes}
use Rattle.codec.proofs.Laws.All.{all_left}
use Rattle.outcomes.specs.Outcome.{done, Row}
use Rattle.outcomes.specs.Answers.{Answers, Front}
use Rattle.outcomes.proofs.Laws.Outcome.{done_none, done_is}
use Rattle.outcomes.proofs.Laws.Answers.{said_wrote}
use Rattle.slices.specs.Limits.{chunk}
use Rattle.slices.specs.Accepts.{Accepts}
use Rattle.slices.specs.Cover.{cover}
use Rattle.slices.specs.Passes.{Passes}
use Rattle.slices.specs.Record.{records}
use Rattle.slices.specs.Refusals.{chunk_too_long, list_rows}
use Rattle.slices.proofs.Laws.Firsts.{records_fit}
use Rattle.slices.proofs.Laws.Record.{records_back}
use Rattle.slices.proofs.Laws.Refusals.{none_accepts}
use Rattle.runs.specs.Runs.{runs}
use Rattle.views.specs.View.{view_runs, view, source_in}
use Rattle.views.specs.Calls.{view_bytes, view_rows, view_outcome}
use Rattle.views.proofs.Laws.Fits.{view_records_fit}
use Rattle.views.proofs.Laws.ViewSource.{view_source}
use Rattle.slices.specs.declared.Record.{Record}
use Rattle.std.specs.Prelude.{Ok}

-- L = 0 gives no records
pub view_none : (rs : List Record) → view rs 0 ≡ []
unfolding view view_runs runs
view_none rs = refl

module _ (bs : List ℕ) (b : Bytes bs) where
  pub view_back : All Passes (records bs) → (l : ℕ) → l ≤ chunk → records (view_bytes bs l) ≡ view (records bs) l
  unfolding view_bytes
  view_back p l h = records_back (view (records bs) l) (view_records_fit (records bs) p (records_fit bs b) l h)

  -- a view is written only of an accepted list, for a chunk length that is allowed
  pub view_done : (l room : ℕ) (vs : List ℕ) → view_outcome bs l room ≡ done vs → Accepts bs × (l ≤ chunk) × (vs ≡ view_bytes bs l)
  unfolding view_outcome view_rows chunk_too_long
  view_done l room vs e =
      let none = done_none (view_bytes bs l) (view_rows bs l room) vs e in (
        none_accepts bs (all_left (λ (r : Row). r.test ≡ false) (list_rows bs) _ none.1),
        ltb-false chunk l none.0,
        done_is (view_bytes bs l) (view_rows bs l room) vs e,
      )

  pub view_done_back : (l room : ℕ) (vs : List ℕ) → view_outcome bs l room ≡ done vs → records vs ≡ view (records bs) l
  view_done_back l room vs e =
      let d = view_done l room vs e in
      ap records d.2 ∙ view_back d.0.pass l d.1

  -- where the call succeeds, the list is accepted, and the view's bytes are those that it wrote, as many as it counted: read back they are the
  -- view, and give each position its source
  module _ (l : ℕ) (before after : List ℕ) (n : ℕ) (a : Answers (view_outcome bs l (length before)) before (Ok n) after) where
    pub view_wrote : Accepts bs × (l ≤ chunk) × Front (view_bytes bs l) n after
    view_wrote =
        let w = said_wrote (view_outcome bs l (length before)) before after n a in
        let d = view_done l (length before) w.bytes w.outcome in
        (d.0, d.1, rw d.2 at w.first)

    pub view_wrote_back : records (take n after) ≡ view (records bs) l
    view_wrote_back =
        let w = said_wrote (view_outcome bs l (length before)) before after n a in
        ap records w.first.front ∙ view_done_back l (length before) w.bytes w.outcome

    pub view_wrote_source : (p : ℕ) → p < l → source_in (records (take n after)) p ≡ cover (records bs) p
    view_wrote_source p h = rw view_wrote_back (view_source (records bs) view_wrote.0.pass l p h)
