-- What `text` answers, case by case. Assumes nothing.
use Prim.Native.Nat.{ℕ, ◌<◌, ◌≤◌}
use mathlib.Core.Path.{◌≡◌, refl, ap, ◌∙◌}
use mathlib.Core.Bool.{Bool, true, false}
use mathlib.Core.List.{List, ◌++◌}
use borrow.Author.Tests.{lt-ltb, le-ltb}
use Rattle.slices.specs.Limits.{chunk}
use Rattle.slices.specs.Record.{records}
use Rattle.outcomes.specs.Numbers.{short_buffer, too_many}
use Rattle.outcomes.specs.Outcome.{refused, done, refusal, first_of}
use Rattle.outcomes.proofs.Laws.Outcome.{row_holds}
use Rattle.codec.specs.All.{Bytes}
use Rattle.views.specs.View.{view}
use Rattle.views.specs.Calls.{view_outcome}
use Rattle.views.proofs.Laws.ViewBack.{view_done_back}
use Rattle.slices.specs.declared.Record.{Record}
use Rattle.listing.specs.Listing.{file_limit, header, lines, refused_line, text_of, listing}
use Rattle.listing.specs.Calls.{text_room, text_outcome}
use Rattle.outcomes.specs.Outcome.{Refusal}

module _ (longer : Bool) (bs : List ℕ) where
  pub text_12 : (room : ℕ) → room < text_room → text_outcome longer bs room ≡ refused (refusal short_buffer 0)
  unfolding text_outcome
  text_12 room h = row_holds _ _ _ _ _ (lt-ltb room text_room h)

  pub text_done : (room : ℕ) → text_room ≤ room → text_outcome longer bs room ≡ done (listing longer bs)
  unfolding text_outcome first_of
  text_done room h = rw (le-ltb room text_room h)

  pub listing_longer : longer ≡ true → listing longer bs ≡ refused_line (refusal too_many 0)
  unfolding listing text_of
  listing_longer h = rw h

  module _ (h : longer ≡ false) where
    pub listing_refused : (r : Refusal) → view_outcome bs chunk file_limit ≡ refused r → listing longer bs ≡ refused_line r
    unfolding listing text_of
    listing_refused r e = rw (h, e)

    pub listing_view : (vs : List ℕ) → view_outcome bs chunk file_limit ≡ done vs → listing longer bs ≡ header ++ lines (records vs)
    unfolding listing text_of
    listing_view vs e = rw (h, e)

-- where the view call answers, the lines are those of the view's records
pub listing_prints : (bs : List ℕ) → Bytes bs → (vs : List ℕ) → view_outcome bs chunk file_limit ≡ done vs → listing false bs ≡ header ++ lines (view (records bs) chunk)
listing_prints bs b vs e = listing_view false bs refl vs e ∙ ap (λ (rs : List Record). header ++ lines rs) (view_done_back bs b chunk file_limit vs e)
