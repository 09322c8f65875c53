-- The records of the new list pass refusals 3 to 6, each slice has one size where it had one, and they are of 24 bytes, so the list that is written
-- is the list that is read. Assumes nothing.
use Prim.Native.Nat.{ℕ, ◌-◌, ◌^◌, ◌<◌, ◌≤◌}
use native.Mathlib.Omega.{arith}
use native.Mathlib.Decide.{dec_lt}
use mathlib.Core.Path.{◌≡◌, refl, ap, ◌∙◌}
use mathlib.Core.Bool.{Bool, true, false, cond}
use mathlib.Core.Logic.{◌≢◌}
use mathlib.Core.List.{List, [], ◌∷◌, ◌++◌, append-nil, flat_map}
use borrow.Author.Tests.{lt-ltb, le-ltb}
use lib.ListN.{length, take, drop}
use Rattle.codec.specs.All.{All}
use Rattle.slices.specs.Limits.{record_size}
use Rattle.slices.specs.Record.{Fits, records, encode, encode_all}
use Rattle.slices.specs.Passes.{Passes}
use Rattle.slices.specs.OneSize.{OneSize}
use Rattle.slices.proofs.Laws.Ids.{Fresh}
use Rattle.slices.proofs.Laws.OneSize.{Sized, sizes_of, one_size_table, table_one_size, one_size_new}
use Rattle.slices.proofs.Laws.Record.{records_back, length-encode}
use Rattle.slices.proofs.Laws.Refusals.{passes_fits}
use Rattle.compaction.specs.Span.{covers_nothing}
use Rattle.compaction.specs.Compaction.{extent, new_record, stand_in, new_list, new_list_bytes}
use Rattle.compaction.specs.Inner.{stand_for}
use Rattle.codec.proofs.Laws.All.{all_drop, all_append}
use Rattle.compaction.proofs.Laws.Span.{Spans, spans}
use Rattle.slices.specs.declared.Record.{Record}

module _ (id : ℕ) (nz : id ≢ 0) where
  new_passes : (xs : List Record) → Spans xs → Passes (new_record xs id)
  unfolding new_record extent
  new_passes xs s =
      record { inside = omega (arith, s.order, s.top); sized = omega (arith, s.order, s.top); zeros = λ z. absurd (nz z); within = λ z. omega arith }

  -- what holds of the new record holds of what stands in
  stand_in_has : (P : Record → Type 0) → ((xs : List Record) → Spans xs → P (new_record xs id)) → (xs : List Record) → All P (stand_in xs id)
  unfolding stand_in
  stand_in_has P new xs = go (covers_nothing xs) refl
    where
      go : (b : Bool) → covers_nothing xs ≡ b → All P (cond b [] (new_record xs id ∷ []))
      go true e = tt
      go false e = (new xs (spans xs e), tt)

  pub new_list_passes : (rs : List Record) (k : ℕ) → All Passes rs → All Passes (new_list rs k id)
  unfolding new_list
  new_list_passes rs k h =
      all_append Passes (stand_in (take k rs) id) (drop k rs) (stand_in_has Passes new_passes (take k rs)) (all_drop Passes k rs h)

  -- the rest of the list keeps its sizes, and the new slice has one
  pub new_list_one_size : (rs : List Record) (k : ℕ) → Fresh id rs → OneSize rs → OneSize (new_list rs k id)
  unfolding new_list stand_in new_record
  new_list_one_size rs k n h = go (covers_nothing (take k rs))
    where
      rest : OneSize (drop k rs)
      rest = table_one_size (sizes_of rs) (drop k rs) (all_drop (Sized (sizes_of rs)) k rs (one_size_table rs h))

      go : (b : Bool) → OneSize (cond b [] (new_record (take k rs) id ∷ []) ++ drop k rs)
      go true = rest
      go false = one_size_new (new_record (take k rs) id) (drop k rs) (all_drop (λ (e : Record). e.id ≢ id) k rs n) rest

  module _ (wide : id < 2 ^ 64) where
    new_id : (xs : List Record) → (new_record xs id).id < 2 ^ 64
    unfolding new_record
    new_id xs = wide

    new_fits : (xs : List Record) → Spans xs → Fits (new_record xs id)
    new_fits xs s = passes_fits (new_record xs id) (new_passes xs s) (new_id xs)

    pub new_list_fits : (rs : List Record) (k : ℕ) → All Fits rs → All Fits (new_list rs k id)
    unfolding new_list
    new_list_fits rs k h = all_append Fits (stand_in (take k rs) id) (drop k rs) (stand_in_has Fits new_fits (take k rs)) (all_drop Fits k rs h)

    -- the bytes of the new list are read back
    pub new_list_back : (rs : List Record) (k : ℕ) → All Fits rs → records (new_list_bytes rs k id) ≡ new_list rs k id
    unfolding new_list_bytes
    new_list_back rs k h = records_back (new_list rs k id) (new_list_fits rs k h)

-- ---- as the code writes it

-- the record that stands for the positions from `from` up to `end`
module _ (from end id : ℕ) where
  pub stand_some : from < end → encode_all (stand_for from end id) ≡ encode (record { pos = from; id = id; size = end - from; off = 0; len = end - from })
  unfolding stand_for encode_all flat_map
  stand_some h = rw (lt-ltb from end h) (append-nil _)

  pub stand_length : from < end → length (encode_all (stand_for from end id)) ≡ record_size
  stand_length h = ap length (stand_some h) ∙ length-encode _

  pub stand_none : end ≤ from → encode_all (stand_for from end id) ≡ []
  unfolding stand_for encode_all flat_map
  stand_none h = rw (le-ltb from end h)

  pub stand_most : length (encode_all (stand_for from end id)) ≤ record_size
  stand_most = elim (dec_lt from end) [ yes h ↦ omega (arith, stand_length h) | no h ↦ omega (arith, ap length (stand_none (omega arith))) ]
