-- The read plan of one chunk is accepted as the plan of a read of a file that ends with it. Assumes nothing.
use Prim.Native.Nat.{ℕ, ◌+◌, ◌-◌, ◌*◌, ◌≤◌}
use native.Mathlib.Omega.{arith}
use mathlib.Core.Path.{◌≡◌, sym, ap, ◌∙◌}
use mathlib.Core.Bool.{false}
use mathlib.Core.List.{List, [], ◌∷◌}
use lib.ListN.{length}
use lib.Seq.{take_all}
use borrow.Author.Tests.{ltb-false, le-ltb, eq-eqb}
use Rattle.codec.specs.All.{Bytes}
use Rattle.codec.proofs.Laws.All.{all_left}
use Rattle.outcomes.specs.Outcome.{done, Row, NoneHolds}
use Rattle.outcomes.proofs.Laws.Outcome.{done_none, done_is}
use Rattle.slices.specs.Accepts.{Accepts}
use Rattle.slices.specs.Limits.{chunk, max_index}
use Rattle.slices.specs.Refusals.{chunk_too_long}
use Rattle.slices.proofs.Laws.Refusals.{none_accepts}
use Rattle.joined.specs.Lists.{total, parts}
use Rattle.joined.specs.Refusals.{lists_rows, lists_outcome}
use Rattle.joined.proofs.Laws.Refusals.{lists_accepted_exactly}
use Rattle.plans.specs.Calls.{past_index, plan_bytes, chunk_rows, read_rows, read_outcome}
use Rattle.files.specs.Calls.{wrong_chunks, chunks_rows, file_bytes}
use Rattle.files.specs.File.{file_end}
use Rattle.files.proofs.Laws.Joins.{one_list_bytes}
use Rattle.judging.specs.Calls.{judge_outcome}
use Rattle.judging.specs.Judge.{accepted}
use Rattle.judging.proofs.Laws.Ours.{plan_accepted}

-- ---- what a read of one chunk is refused for, a read across chunks is

one_right : (bytes index : ℕ) → index ≤ max_index → wrong_chunks (bytes ∷ []) bytes index ≡ false
unfolding wrong_chunks total
one_right bytes index h =
    let e : index + 1 - 1 ≡ index = omega arith in
    rw (eq-eqb (bytes + 0) bytes (omega arith), e, le-ltb max_index index h)

accepts_lists : (i : ℕ) (bs : List ℕ) → Accepts bs → NoneHolds (lists_rows i (parts (length bs ∷ []) bs))
unfolding lists_outcome parts
accepts_lists i bs a =
    rw (take_all (length bs) bs (omega arith))
    (done_none 1 (lists_rows i (bs ∷ [])) 1 ((lists_accepted_exactly i (bs ∷ [])).1 (a, tt)))

module _ (bs : List ℕ) (index l B : ℕ) (none : NoneHolds (chunk_rows bs index l B)) where
  one_none : NoneHolds (chunks_rows bs (length bs ∷ []) index B)
  unfolding chunk_rows chunks_rows past_index
  one_none = (
    one_right (length bs) index (ltb-false max_index index none.1.0),
    (none.1.1.0, accepts_lists index bs (none_accepts bs none.1.1.1)),
  )

  one_end : file_end index (index * chunk + l) 1 ≡ l
  unfolding chunk_rows chunk_too_long file_end
  one_end =
      let h = ltb-false chunk l none.0 in
      omega arith

pub chunk_accepted : (bs : List ℕ) → Bytes bs → (index l B start count room : ℕ) (out : List ℕ) → read_outcome bs index l B start count room ≡ done out
    → judge_outcome bs (length bs ∷ []) index (index * chunk + l) B start count out ≡ done accepted
unfolding read_outcome read_rows file_bytes
chunk_accepted bs b index l B start count room out h =
    let ours = plan_bytes bs index l B start count in
    let rows = read_rows bs index l B start count room in
    let none = all_left (λ (r : Row). r.test ≡ false) (chunk_rows bs index l B) _ (done_none ours rows out h) in
    let same = one_list_bytes bs index (index * chunk + l) B start count ∙ ap (λ (e : ℕ). plan_bytes bs index e B start count) (one_end bs index l B none) in
    ap (judge_outcome bs (length bs ∷ []) index (index * chunk + l) B start count) (done_is ours rows out h ∙ sym same)
    ∙ plan_accepted bs (length bs ∷ []) b index (index * chunk + l) B start count (one_none bs index l B none)
