-- Which views are printed: those that fit their buffer of 64 KiB, of at most 2,730 runs. Assumes nothing.
use Prim.Native.Nat.{ℕ, ◌*◌, ◌<◌, ◌≤◌}
use native.Mathlib.Omega.{arith}
use mathlib.Core.Path.{◌≡◌, refl, ◌∙◌}
use mathlib.Core.Bool.{false}
use mathlib.Core.List.{List, ◌++◌}
use lib.ListN.{length}
use Rattle.codec.specs.All.{Bytes}
use Rattle.outcomes.specs.Numbers.{short_buffer}
use Rattle.outcomes.specs.Outcome.{refusal, delivered}
use Rattle.outcomes.specs.Answers.{answer_of}
use Rattle.outcomes.proofs.Laws.Outcome.{short_refused, short_done}
use Rattle.slices.specs.Limits.{record_size, chunk}
use Rattle.slices.specs.Accepts.{Accepts}
use Rattle.slices.specs.Record.{count, records}
use Rattle.slices.specs.Refusals.{check_outcome, checked}
use Rattle.slices.proofs.Laws.Record.{length-encode_all}
use Rattle.slices.proofs.Laws.Refusals.{accepted_exactly}
use Rattle.views.specs.View.{view}
use Rattle.views.specs.Calls.{view_bytes, view_outcome}
use Rattle.views.proofs.Laws.ViewFrom.{view_from-view}
use Rattle.views.proofs.Laws.Calls.{view_accepted}
use Rattle.std.specs.Prelude.{Ok}
use Rattle.listing.specs.Listing.{file_limit, header, lines, refused_line, listing}
use Rattle.listing.specs.Calls.{most_runs}
use Rattle.listing.proofs.Laws.Calls.{listing_refused, listing_prints}

pub most_runs_lem : most_runs ≡ 2730
most_runs_lem = refl

module _ (bs : List ℕ) (a : Accepts bs) where
  passed : checked (check_outcome bs) ≡ Ok (count bs)
  unfolding answer_of
  passed = rw ((accepted_exactly bs).1 a)

  -- of an accepted list it is left to see whether its view fits
  asked : view_outcome bs chunk file_limit ≡ delivered (view_bytes bs chunk) file_limit
  unfolding view_bytes
  asked = view_accepted bs chunk file_limit (omega arith) (count bs) passed ∙ rw (view_from-view (records bs) chunk)

  length-view : length (view_bytes bs chunk) ≡ length (view (records bs) chunk) * record_size
  unfolding view_bytes
  length-view = length-encode_all (view (records bs) chunk)

  -- a view above 2,730 runs is refusal 12
  pub listing_too_long : most_runs < length (view (records bs) chunk) → listing false bs ≡ refused_line (refusal short_buffer 0)
  listing_too_long h = listing_refused false bs refl _ (asked ∙ short_refused (view_bytes bs chunk) file_limit (omega (arith, length-view)))

  -- one of no more is printed, all of it
  pub listing_fits : Bytes bs → length (view (records bs) chunk) ≤ most_runs → listing false bs ≡ header ++ lines (view (records bs) chunk)
  listing_fits b h = listing_prints bs b _ (asked ∙ short_done (view_bytes bs chunk) file_limit (omega (arith, length-view)))
