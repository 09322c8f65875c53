-- What `file_plan` writes is the plan, and fetches what the file has: from any store, for every place of the read. Assumes nothing.
use Prim.Native.Nat.{ℕ, ◌+◌, ◌<◌}
use mathlib.Core.Path.{◌≡◌}
use mathlib.Core.Bool.{false}
use mathlib.Core.List.{List}
use lib.ListN.{length}
use Rattle.codec.specs.All.{All, Bytes}
use Rattle.codec.proofs.Laws.All.{all_left}
use Rattle.outcomes.specs.Outcome.{done, RowOf, NoneHolds}
use Rattle.outcomes.proofs.Laws.Outcome.{done_none, done_is}
use Rattle.slices.specs.Accepts.{Accepts}
use Rattle.joined.specs.Lists.{parts}
use Rattle.joined.specs.Refusals.{lists_rows}
use Rattle.joined.proofs.Laws.Refusals.{none_lists}
use Rattle.plans.specs.Piece.{pieces_in, store_runs}
use Rattle.plans.specs.Plan.{cut_to}
use Rattle.plans.specs.Store.{Store, fetched}
use Rattle.files.specs.Calls.{lists_in, file_bytes, chunks_rows, file_rows, file_outcome}
use Rattle.files.specs.File.{file_reads, file_end, file_plan}
use Rattle.files.proofs.Laws.Bytes.{file_plan_back, file_bytes_back}
use Rattle.files.proofs.Laws.Chunks.{Right, right_chunks}
use Rattle.joined.specs.Refusals.{ListRefusal}

module _ (bs ns : List ℕ) (b : Bytes bs) (first file_len B start count room : ℕ) (out : List ℕ) (h : file_outcome bs ns first file_len B start count room ≡ done out) where
  no_row : NoneHolds (file_rows bs ns first file_len B start count room)
  unfolding file_outcome
  no_row = done_none (file_bytes bs ns first file_len B start count) (file_rows bs ns first file_len B start count room) out h

  out_is : out ≡ file_bytes bs ns first file_len B start count
  unfolding file_outcome
  out_is = done_is (file_bytes bs ns first file_len B start count) (file_rows bs ns first file_len B start count room) out h

  right : Right ns (length bs) first
  unfolding file_rows chunks_rows
  right = right_chunks ns (length bs) first no_row.0

  accepted : All Accepts (parts ns bs)
  unfolding file_rows chunks_rows
  accepted = none_lists first (parts ns bs) (all_left (λ (r : RowOf ListRefusal). r.test ≡ false) (lists_rows first (parts ns bs)) _ no_row.1.1)

  -- the bytes are read back as the plan
  pub file_answer_back : pieces_in out ≡ file_plan first B (lists_in bs ns) file_len start count
  file_answer_back = rw out_is (file_plan_back bs ns b accepted right.few first file_len B start count right.indexes)

  -- and fetch what the file has
  pub file_answer_bytes : (st : Store) (i : ℕ) → i < cut_to (file_end first file_len (length ns)) start count → fetched st (store_runs out) i ≡ file_reads B st (lists_in bs ns) (start + i)
  file_answer_bytes st i k = rw out_is (file_bytes_back bs ns b accepted right.few first file_len B start count right.indexes st i k)
