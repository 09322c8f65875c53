-- The new list of an accepted list is accepted again: it has no more records than the old one, each passes, and each slice has one size. Assumes nothing.
use Prim.Native.Nat.{ℕ, zero, suc, ◌%◌, ◌^◌, ◌<◌, ◌≤◌}
use native.Mathlib.Omega.{arith}
use mathlib.Core.Path.{◌≡◌, sym, ap, ◌∙◌}
use mathlib.Core.Bool.{Bool, true, false, cond}
use mathlib.Core.List.{List, [], ◌∷◌, ◌++◌, append_assoc}
use lib.ListN.{length, take, drop, length-append, length-drop}
use lib.Seq.{take-append-le, drop-append-le}
use borrow.Author.Tests.{ltb-false}
use Rattle.codec.specs.All.{Bytes}
use Rattle.codec.proofs.Laws.All.{all_append, all_left, all_right}
use Rattle.outcomes.specs.Outcome.{done, Row}
use Rattle.outcomes.proofs.Laws.Outcome.{done_none, done_is}
use Rattle.slices.specs.Limits.{record_size}
use Rattle.slices.specs.Record.{count, records, encode_all, Fits}
use Rattle.slices.proofs.Laws.Record.{length-encode_all, length-records, records_back, records_forth}
use Rattle.slices.specs.Accepts.{Accepts}
use Rattle.slices.specs.Refusals.{list_rows}
use Rattle.slices.proofs.Laws.Refusals.{none_accepts}
use Rattle.compaction.specs.Span.{covers_nothing}
use Rattle.compaction.specs.Compaction.{new_record, stand_in, new_list, new_list_bytes}
use Rattle.compaction.proofs.Laws.Told.{nothing_empty}
use Rattle.slices.proofs.Laws.Firsts.{encode-append, records_fit}
use Rattle.compaction.specs.Calls.{too_few, id_in_use, Both, both, later_rows, compact_rows, compact_outcome}
use Rattle.compaction.proofs.Laws.Fresh.{not_in_use}
use Rattle.compaction.proofs.Laws.NewList.{new_list_passes, new_list_one_size, new_list_back}
use Rattle.slices.specs.declared.Record.{Record}

one_most : (xs : List Record) (id : ℕ) → length (stand_in xs id) ≤ 1
unfolding stand_in
one_most xs id = go (covers_nothing xs)
  where
    go : (b : Bool) → length (cond b [] (new_record xs id ∷ [])) ≤ 1
    go true = omega arith
    go false = omega arith

none_for_none : (id : ℕ) → length (stand_in [] id) ≡ 0
unfolding stand_in
none_for_none id = rw nothing_empty

-- no record stands in for none, and one at most for one or more
pub new_list_length : (rs : List Record) (k id : ℕ) → k ≤ length rs → length (new_list rs k id) ≤ length rs
unfolding new_list
new_list_length rs zero id h = omega (arith, length-append (stand_in [] id) rs, none_for_none id)
new_list_length rs (suc k) id h =
    omega (arith, length-append (stand_in (take (suc k) rs) id) (drop (suc k) rs), one_most (take (suc k) rs) id, length-drop (suc k) rs)

pub new_list_accepted : (bs : List ℕ) → Bytes bs → Accepts bs → (k id : ℕ) → k ≤ count bs → id_in_use id (records bs) ≡ false → id < 2 ^ 64
    → Accepts (new_list_bytes (records bs) k id)
unfolding new_list_bytes count
new_list_accepted bs b a k id h new wide =
    let rs = records bs in
    let n = not_in_use id rs new in
    let back = new_list_back id n.0 wide rs k (records_fit bs b) in
    let l = length-encode_all (new_list rs k id) in
    let m = new_list_length rs k id (omega (arith, length-records bs)) in
    record {
      whole = omega arith;
      few = omega (arith, a.few, length-records bs);
      pass = rw back (new_list_passes id n.0 rs k a.pass);
      one_size = rw back (new_list_one_size id n.0 rs k n.1 a.one_size);
    }

-- what the call wrote as the new list is accepted
pub compact_done_accepted : (bs : List ℕ) → Bytes bs → (index B k id plan_room list_room : ℕ) → id < 2 ^ 64 → (w : Both) → compact_outcome bs index B k id plan_room list_room ≡ done w
    → Accepts bs × Accepts w.list
unfolding compact_outcome compact_rows later_rows too_few both
compact_done_accepted bs b index B k id plan_room list_room wide w e =
    let answers = both index B (records bs) k id in
    let rows = compact_rows bs index B k id plan_room list_room in
    let rest = (done_none answers rows w e).1.1 in
    let list = none_accepts bs (all_left (λ (r : Row). r.test ≡ false) (list_rows bs) _ rest) in
    let later = all_right (λ (r : Row). r.test ≡ false) (list_rows bs) _ rest in
    let few = ltb-false (length (records bs)) k later.0 in
    (list, rw (done_is answers rows w e) (new_list_accepted bs b list k id (omega (arith, few, length-records bs)) later.1.0 wide))

-- with records appended it is compaction's new list of the old list with the same records appended
pub new_list_joined : (rs ys : List Record) (k id : ℕ) → k ≤ length rs → new_list rs k id ++ ys ≡ new_list (rs ++ ys) k id
unfolding new_list
new_list_joined rs ys k id h = rw (take-append-le k rs ys h, drop-append-le k rs ys h) (append_assoc (stand_in (take k rs) id) (drop k rs) ys)

-- ---- with records appended, as bytes

module _ (bs ys : List ℕ) (b : Bytes bs) (c : Bytes ys) (whole : length bs % record_size ≡ 0) (rest : length ys % record_size ≡ 0) where
  joined_bytes : encode_all (records bs ++ records ys) ≡ bs ++ ys
  joined_bytes = encode-append (records bs) (records ys) ∙ rw (records_forth bs b whole, records_forth ys c rest)

  joined_records : records (bs ++ ys) ≡ records bs ++ records ys
  joined_records =
      ap records (sym joined_bytes)
      ∙ records_back (records bs ++ records ys) (all_append Fits (records bs) (records ys) (records_fit bs b) (records_fit ys c))

  new_list_bytes_lem : (k id : ℕ) → k ≤ length (records bs) → new_list_bytes (records bs) k id ++ ys ≡ new_list_bytes (records (bs ++ ys)) k id
  unfolding new_list_bytes
  new_list_bytes_lem k id h =
      ap (λ (zs : List ℕ). encode_all (new_list (records bs) k id) ++ zs) (sym (records_forth ys c rest))
      ∙ sym (encode-append (new_list (records bs) k id) (records ys))
      ∙ rw (new_list_joined (records bs) (records ys) k id h, joined_records)

  -- "for the calls, joined lists must be accepted together": where the old list is, and the new id is new in it, so is the new list
  pub joined_accepted : Accepts (bs ++ ys) → (k id : ℕ) → k ≤ count bs → id_in_use id (records (bs ++ ys)) ≡ false → id < 2 ^ 64
      → Accepts (new_list_bytes (records bs) k id ++ ys)
  unfolding count
  joined_accepted a k id h new wide =
      rw (new_list_bytes_lem k id (omega (arith, length-records bs)))
      (new_list_accepted (bs ++ ys) (all_append (λ (x : ℕ). x < 256) bs ys b c) a k id (omega (arith, length-append bs ys)) new wide)
