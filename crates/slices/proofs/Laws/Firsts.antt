-- Parts of a list: lists one after the other, the first k records as a part of the bytes, and the remaining records as the rest of them.
-- Assumes nothing.
use Prim.Native.Nat.{ℕ, ◌*◌, ◌%◌, ◌≤◌}
use native.Mathlib.Omega.{arith}
use mathlib.Core.Path.{◌≡◌, sym, ap, ◌∙◌}
use mathlib.Core.List.{List, ◌++◌}
use lib.ListN.{length, take, drop, length-take, take-append-drop}
use lib.Seq.{take_at, drop_at}
use Rattle.codec.proofs.Laws.Groups.{flat_map-append}
use Rattle.codec.specs.All.{All, Bytes}
use Rattle.slices.specs.Limits.{record_size}
use Rattle.slices.specs.Record.{encode, encode_all, record_at, count, records, Fits}
use Rattle.slices.proofs.Laws.Record.{length-encode_all, records_back, records_forth, records_all, decode_fits, length-records}
use Rattle.codec.proofs.Laws.All.{all_take, all_append}
use Rattle.slices.specs.declared.Record.{Record}

-- the bytes of two lists, one after the other
pub encode-append : (xs ys : List Record) → encode_all (xs ++ ys) ≡ encode_all xs ++ encode_all ys
unfolding encode_all
encode-append xs ys = flat_map-append encode xs ys

-- the records of bytes are of 24 bytes
pub records_fit : (bs : List ℕ) → Bytes bs → All Fits (records bs)
unfolding record_at
records_fit bs b = records_all Fits bs (λ j l. decode_fits bs _ b)

-- the records of two lists of whole records, one after the other
pub records-append : (xs ys : List ℕ) → Bytes xs → Bytes ys → length xs % record_size ≡ 0 → length ys % record_size ≡ 0 → records (xs ++ ys) ≡ records xs ++ records ys
records-append xs ys a b h k =
    let rs = records xs ++ records ys in
    let e : encode_all rs ≡ xs ++ ys = encode-append (records xs) (records ys) ∙ rw (records_forth xs a h, records_forth ys b k) in
    ap records (sym e) ∙ records_back rs (all_append Fits (records xs) (records ys) (records_fit xs a) (records_fit ys b))

module _ (bs : List ℕ) (b : Bytes bs) (whole : length bs % record_size ≡ 0) (k : ℕ) (h : k ≤ count bs) where
  parts : encode_all (take k (records bs)) ++ encode_all (drop k (records bs)) ≡ bs
  parts = sym (encode-append (take k (records bs)) (drop k (records bs))) ∙ ap encode_all (take-append-drop k (records bs)) ∙ records_forth bs b whole

  front : length (encode_all (take k (records bs))) ≡ k * record_size
  front =
      let e : length (take k (records bs)) ≡ k = simp (length-take, length-records) (omega arith) in
      length-encode_all (take k (records bs)) ∙ rw e

  firsts_bytes : take (k * record_size) bs ≡ encode_all (take k (records bs))
  firsts_bytes = ap (take (k * record_size)) (sym parts) ∙ take_at (encode_all (take k (records bs))) (encode_all (drop k (records bs))) (k * record_size) front

  -- the part of the first k records
  pub firsts_records : records (take (k * record_size) bs) ≡ take k (records bs)
  firsts_records = ap records firsts_bytes ∙ records_back (take k (records bs)) (all_take Fits k (records bs) (records_fit bs b))

  -- the rest
  pub rest_bytes : drop (k * record_size) bs ≡ encode_all (drop k (records bs))
  rest_bytes = ap (drop (k * record_size)) (sym parts) ∙ drop_at (encode_all (take k (records bs))) (encode_all (drop k (records bs))) (k * record_size) front
