-- What `read_plan` writes fetches what the list reads: from any store, for every place of the read. Assumes nothing.
use Prim.Native.Nat.{ℕ, ◌+◌, ◌^◌, ◌<◌, ◌≤◌}
use mathlib.Core.Path.{◌≡◌}
use mathlib.Core.Bool.{false}
use mathlib.Core.List.{List, map}
use borrow.Author.Tests.{ltb-false}
use Rattle.codec.specs.All.{All, Bytes}
use Rattle.codec.proofs.Laws.All.{all_left}
use Rattle.slices.specs.Limits.{chunk}
use Rattle.slices.specs.Passes.{Passes}
use Rattle.slices.specs.Record.{records}
use Rattle.outcomes.specs.Outcome.{done, Row, NoneHolds}
use Rattle.slices.specs.Refusals.{list_rows, chunk_too_long}
use Rattle.outcomes.proofs.Laws.Outcome.{done_none, done_is}
use Rattle.slices.proofs.Laws.Refusals.{none_accepts}
use Rattle.plans.specs.Piece.{in_chunk, pieces_in, store_runs}
use Rattle.plans.specs.Plan.{cut_to, read_plan}
use Rattle.plans.specs.Store.{Store, reads, fetched}
use Rattle.plans.specs.Calls.{plan_bytes, chunk_rows, read_rows, read_outcome}
use Rattle.plans.proofs.Laws.Fits.{index_fits}
use Rattle.plans.proofs.Laws.Bytes.{plan_back, plan_bytes_back}

module _ (bs : List ℕ) (b : Bytes bs) (index l B start count room : ℕ) (out : List ℕ) (h : read_outcome bs index l B start count room ≡ done out) where
  no_row : NoneHolds (read_rows bs index l B start count room)
  unfolding read_outcome
  no_row = done_none (plan_bytes bs index l B start count) (read_rows bs index l B start count room) out h

  out_is : out ≡ plan_bytes bs index l B start count
  unfolding read_outcome
  out_is = done_is (plan_bytes bs index l B start count) (read_rows bs index l B start count room) out h

  passed : All Passes (records bs)
  unfolding read_rows chunk_rows
  passed = (none_accepts bs (all_left (λ (r : Row). r.test ≡ false) (list_rows bs) _ no_row.1.1.1)).pass

  indexed : index < 2 ^ 32
  unfolding read_rows chunk_rows
  indexed = index_fits index no_row.1.0

  short : l ≤ chunk
  unfolding read_rows chunk_rows chunk_too_long
  short = ltb-false chunk l no_row.0

  -- each piece has the chunk's index
  pub read_plan_back : pieces_in out ≡ map (in_chunk index 0) (read_plan B (records bs) l start count)
  read_plan_back = rw out_is (plan_back bs b passed index l B start count indexed short)

  pub read_plan_bytes : (st : Store) (i : ℕ) → i < cut_to l start count → fetched st (store_runs out) i ≡ reads B st (records bs) (start + i)
  read_plan_bytes st i k = rw out_is (plan_bytes_back bs b passed index l B start count indexed short st i k)
