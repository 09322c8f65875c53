-- Laws of records as bytes: a record that is written is read back, and 24 bytes that are read are written back; likewise whole lists.
-- Assumes nothing.
use Prim.Native.Nat.{ℕ, suc, ◌+◌, ◌*◌, ◌%◌, ◌<◌, ◌≤◌}
use native.Mathlib.Omega.{arith}
use native.Mathlib.Nat.{zero-add, add_assoc}
use mathlib.Core.Path.{◌≡◌, refl, sym, ap, ◌∙◌}
use mathlib.Core.List.{List, [], ◌∷◌, ◌++◌, append_assoc, append-nil}
use lib.ListN.{length, take, drop, length-append}
use lib.Seq.{take_all}
use Rattle.codec.specs.All.{All, Bytes}
use Rattle.codec.specs.Fixed.{big_endian}
use Rattle.codec.specs.Groups.{groups}
use Rattle.codec.proofs.Laws.Fixed.{length-big_endian, number_at_behind, number_at_bound, field_back, number_forth}
use Rattle.codec.proofs.Laws.Groups.{cut, length_encoded, length-groups, groups_more, groups_all, groups_at, groups_forth, groups_back}
use Rattle.slices.specs.Limits.{record_size}
use Rattle.slices.specs.Record.{encode, encode_all, decode, record_at, records_from, count, records, Fits}
use Rattle.slices.specs.declared.Record.{Record}

pub length-encode : (r : Record) → length (encode r) ≡ record_size
unfolding encode
length-encode r = simp (length-append, length-big_endian)

pub length-encode_all : (rs : List Record) → length (encode_all rs) ≡ length rs * record_size
unfolding encode_all
length-encode_all rs = length_encoded encode record_size length-encode rs

-- ---- one record

decode_encode : (r : Record) (rest : List ℕ) → Fits r → decode (encode r ++ rest) 0 ≡ r
unfolding decode encode
decode_encode r rest f =
    let a = big_endian 4 r.pos in
    let b = big_endian 8 r.id in
    let c = big_endian 4 r.size in
    let d = big_endian 4 r.off in
    let e = big_endian 4 r.len in
    let la = length-big_endian 4 r.pos in
    let lb = length-big_endian 8 r.id in
    let lc = length-big_endian 4 r.size in
    let ld = length-big_endian 4 r.off in
    let pos = field_back [] 0 4 r.pos (b ++ (c ++ (d ++ (e ++ rest)))) refl f.pos in
    let id = field_back a 4 8 r.id (c ++ (d ++ (e ++ rest))) la f.id in
    let size = simp append_assoc at (field_back (a ++ b) 12 4 r.size (d ++ (e ++ rest)) (simp length-append (omega arith)) f.size) in
    let off = simp append_assoc at (field_back (a ++ (b ++ c)) 16 4 r.off (e ++ rest) (simp length-append (omega arith)) f.off) in
    let len = simp append_assoc at (field_back (a ++ (b ++ (c ++ d))) 20 4 r.len rest (simp length-append (omega arith)) f.len) in
    simp append_assoc (λ i. record { pos = pos i; id = id i; size = size i; off = off i; len = len i })

-- a record that is written is read back
pub record_back : (r : Record) → Fits r → decode (encode r) 0 ≡ r
record_back r f = ap (λ (bs : List ℕ). decode bs 0) (sym (append-nil (encode r))) ∙ decode_encode r [] f

-- the bytes of a record that is read are those that it was read from
pub decode_forth : (bs : List ℕ) (at : ℕ) → Bytes bs → at + record_size ≤ length bs → encode (decode bs at) ≡ take record_size (drop at bs)
unfolding decode encode
decode_forth bs at h l =
    let a = number_forth bs at 4 h (omega arith) in
    let b = number_forth bs (at + 4) 8 h (omega arith) in
    let c = number_forth bs (at + 12) 4 h (omega arith) in
    let d = number_forth bs (at + 16) 4 h (omega arith) in
    let e = number_forth bs (at + 20) 4 h (omega arith) in
    let s = cut bs 4 20 at (at + 4) refl in
    let t = cut bs 8 12 (at + 4) (at + 12) (omega arith) in
    let u = cut bs 4 8 (at + 12) (at + 16) (omega arith) in
    let v = cut bs 4 4 (at + 16) (at + 20) (omega arith) in
    cc

-- 24 bytes that are read are written back
pub record_forth : (bs : List ℕ) → Bytes bs → length bs ≡ record_size → encode (decode bs 0) ≡ bs
record_forth bs h l = decode_forth bs 0 h (omega arith) ∙ take_all record_size bs (omega arith)

-- what is read from bytes fits them
pub decode_fits : (bs : List ℕ) (at : ℕ) → Bytes bs → Fits (decode bs at)
unfolding decode
decode_fits bs at h =
    record {
      pos = number_at_bound bs at 4 h;
      id = number_at_bound bs (at + 4) 8 h;
      size = number_at_bound bs (at + 12) 4 h;
      off = number_at_bound bs (at + 16) 4 h;
      len = number_at_bound bs (at + 20) 4 h;
    }

-- ---- the records of a list

-- what stands in front of a record does not count
decode_behind : (pre bs : List ℕ) (at : ℕ) → decode (pre ++ bs) (length pre + at) ≡ decode bs at
unfolding decode
decode_behind pre bs at = simp (add_assoc, number_at_behind pre bs)

-- a list of records that is written is read back
pub records_back : (rs : List Record) → All Fits rs → records (encode_all rs) ≡ rs
unfolding encode_all records records_from count groups
records_back rs f = groups_back decode record_size (omega arith) decode_behind encode length-encode Fits decode_encode rs f

-- a whole number of records that is read is written back
pub records_forth : (bs : List ℕ) → Bytes bs → length bs % record_size ≡ 0 → encode_all (records bs) ≡ bs
unfolding encode_all records records_from count groups
records_forth bs h l = groups_forth decode record_size encode bs (λ at k. decode_forth bs at h k) l

-- ---- record by record

pub length-records : (bs : List ℕ) → length (records bs) ≡ count bs
unfolding records records_from
length-records bs = length-groups decode record_size bs 0 (count bs)

-- the first n records, and one more
pub records_more : (bs : List ℕ) (n : ℕ) → records_from bs 0 (suc n) ≡ records_from bs 0 n ++ (record_at bs n ∷ [])
unfolding records_from record_at
records_more bs n = rw zero-add at (groups_more decode record_size bs 0 n)

-- what holds of each record by its place holds of all, and the other way round
module _ (P : Record → Type 0) (bs : List ℕ) where
  pub records_all : ((j : ℕ) → j < count bs → P (record_at bs j)) → All P (records bs)
  unfolding records records_from record_at
  records_all h = groups_all decode record_size P bs 0 (count bs) (λ j a b. h j (omega arith))

  pub records_at : All P (records bs) → (j : ℕ) → j < count bs → P (record_at bs j)
  unfolding records records_from record_at
  records_at h j l = groups_at decode record_size P bs 0 (count bs) h j (omega arith) (omega arith)
