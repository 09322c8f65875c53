-- Laws of loading: a load refuses as the view does in the room that both buffers have, and the view's bytes fill a row with its segments. Assumes nothing.
use Prim.Native.Nat.{ℕ, zero, suc, ◌+◌, ◌*◌, ◌/◌, ◌≤◌, zero-le}
use native.Mathlib.Omega.{arith}
use native.Mathlib.Decide.{dec_le}
use mathlib.Core.Path.{◌≡◌, refl, sym, ap, ◌∙◌}
use mathlib.Core.Bool.{Bool, true, false, cond}
use mathlib.Core.List.{List, [], ◌∷◌, ◌++◌, append_assoc}
use lib.ListN.{length, take, drop, length-append, length-take, take-append-drop, get_or-append}
use lib.Seq.{drop-append-le, length-take-le}
use native.Mathlib.Nat.{zero-add}
use Rattle.seeking.proofs.Laws.Fill.{filled_start}
use borrow.Author.Tests.{lt-ltb, le-ltb}
use Rattle.codec.specs.All.{All, Bytes}
use Rattle.codec.specs.Fixed.{number_at}
use Rattle.codec.specs.Groups.{groups_from}
use Rattle.codec.specs.Splice.{splice}
use Rattle.outcomes.specs.Numbers as number
use Rattle.outcomes.specs.Outcome.{OutcomeOf, refused, done, RowOf, first_of, Outcome, Row, row, too_short, delivered}
use Rattle.outcomes.specs.Answers.{Answers, left_in, answer_of}
use Rattle.outcomes.proofs.Laws.Outcome.{first_of-append}
use Rattle.outcomes.proofs.Laws.Answers.{said_refused, said_wrote}
use Rattle.outcomes.specs.Outcome.{Refusal}
use Rattle.std.specs.Prelude.{Result, Ok, Err}
use Rattle.slices.specs.Limits.{record_size, chunk}
use Rattle.slices.specs.Refusals.{chunk_too_long, list_rows}
use Rattle.slices.specs.Record.{decode, records_from, records, count, encode_all}
use Rattle.slices.proofs.Laws.Record.{length-encode_all, length-records}
use Rattle.slices.specs.declared.Record.{Record}
use Rattle.views.specs.View.{view}
use Rattle.views.specs.Calls.{view_bytes, view_rows, view_outcome}
use Rattle.views.proofs.Laws.ViewBack.{view_done, view_back}
use Rattle.views.proofs.Laws.Calls.{view_fits}
use Rattle.slices.specs.Passes.{Passes}
use Rattle.seeking.specs.Load.{row_too_short, load_rows, load_outcome, row_after, Loads}
use Rattle.seeking.specs.Inner.{RoomFor, segments_in, filled, Within}

-- ---- the outcome

-- an outcome with something else done
unfoldable pub instead : {R A B : Type 0} → B → OutcomeOf R A → OutcomeOf R B
instead b (refused r) = refused r
instead b (done a) = done b

first_of_instead : {R A B : Type 0} (b : B) (rows : List (RowOf R)) (o : OutcomeOf R A) → first_of rows (instead b o) ≡ instead b (first_of rows o)
unfolding first_of instead
first_of_instead b [] o = refl
first_of_instead {R} {A} {B} b (x ∷ rows) o = go x.test (first_of_instead b rows o)
  where
    go : (t : Bool) → first_of rows (instead b o) ≡ instead b (first_of rows o) → cond t (refused x.gives) (first_of rows (instead b o)) ≡ instead b (cond t (refused x.gives) (first_of rows o))
    go true ih = refl
    go false ih = ih

module _ (bs : List ℕ) (l room rows r : ℕ) (f : RoomFor room rows r) where
  abbrev vs : List Record
  vs = view (records bs) l

  lengths : length (view_bytes bs l) ≡ length vs * record_size
  unfolding view_bytes
  lengths = length-encode_all vs

  -- refusal 12 for either buffer is refusal 12 in the room that both have
  short : first_of (too_short (view_bytes bs l) room ∷ row (row_too_short bs l rows) number.short_buffer 0 ∷ []) (done vs) ≡ instead vs (delivered (view_bytes bs l) r)
  unfolding first_of row_too_short instead
  short = go (dec_le (length (view_bytes bs l)) r) (dec_le (length (view_bytes bs l)) room)
    where
      go : Dec (length (view_bytes bs l) ≤ r) → Dec (length (view_bytes bs l) ≤ room)
          → first_of (too_short (view_bytes bs l) room ∷ row (row_too_short bs l rows) number.short_buffer 0 ∷ []) (done vs) ≡ instead vs (delivered (view_bytes bs l) r)
      go (yes h) k =
          let m = f.both (length vs) (omega (arith, lengths)) in
          rw (le-ltb r (length (view_bytes bs l)) h, le-ltb room (length (view_bytes bs l)) (omega (arith, lengths)), le-ltb rows (length vs) m.1)
      go (no h) (no k) = rw (lt-ltb r (length (view_bytes bs l)) (omega arith), lt-ltb room (length (view_bytes bs l)) (omega arith))
      go (no h) (yes k) = past (dec_le (length vs) rows)
        where
          past : Dec (length vs ≤ rows) → first_of (too_short (view_bytes bs l) room ∷ row (row_too_short bs l rows) number.short_buffer 0 ∷ []) (done vs) ≡ instead vs (delivered (view_bytes bs l) r)
          past (yes m) = absurd (omega (arith, lengths, f.fits (length vs) (omega (arith, lengths)) m))
          past (no m) = rw (lt-ltb r (length (view_bytes bs l)) (omega arith), le-ltb room (length (view_bytes bs l)) k, lt-ltb rows (length vs) (omega arith))

  pub load_is : load_outcome bs l room rows ≡ instead vs (view_outcome bs l r)
  unfolding load_outcome load_rows view_outcome view_rows
  load_is =
      let front = row (chunk_too_long l) number.chunk_too_long 0 ∷ list_rows bs in
      let a = too_short (view_bytes bs l) room in
      let b = row (row_too_short bs l rows) number.short_buffer 0 in
      ap (λ (t : List Row). first_of (row (chunk_too_long l) number.chunk_too_long 0 ∷ t) (done vs)) (append_assoc (list_rows bs) (a ∷ []) (b ∷ []))
      ∙ first_of-append front (a ∷ b ∷ []) (done vs)
      ∙ ap (first_of front) short
      ∙ first_of_instead vs front (delivered (view_bytes bs l) r)
      ∙ ap (instead vs) (sym (first_of-append front (too_short (view_bytes bs l) r ∷ []) (done (view_bytes bs l))))

-- ---- the records of bytes with others behind them

module _ (xs tail : List ℕ) where
  number_front : (at k : ℕ) → at + k ≤ length xs → number_at (xs ++ tail) at k ≡ number_at xs at k
  unfolding number_at
  number_front at zero h = refl
  number_front at (suc k) h = rw (number_front at k (omega arith), get_or-append xs tail 0 (at + k) (omega arith))

  decode_front : (at : ℕ) → at + record_size ≤ length xs → decode (xs ++ tail) at ≡ decode xs at
  unfolding decode
  decode_front at h =
      λ i. record {
        pos = number_front at 4 (omega arith) i;
        id = number_front (at + 4) 8 (omega arith) i;
        size = number_front (at + 12) 4 (omega arith) i;
        off = number_front (at + 16) 4 (omega arith) i;
        len = number_front (at + 20) 4 (omega arith) i;
      }

  from_front : (i n : ℕ) → (i + n) * record_size ≤ length xs → groups_from decode record_size (xs ++ tail) i n ≡ groups_from decode record_size xs i n
  unfolding groups_from
  from_front i zero h = refl
  from_front i (suc n) h =
      let d : decode (xs ++ tail) (i * record_size) ≡ decode xs (i * record_size) = decode_front (i * record_size) (omega arith) in
      let t : groups_from decode record_size (xs ++ tail) (suc i) n ≡ groups_from decode record_size xs (suc i) n = from_front (suc i) n (omega arith) in
      cc

  records_front : (n : ℕ) → n * record_size ≤ length xs → records_from (xs ++ tail) 0 n ≡ records_from xs 0 n
  unfolding records_from
  records_front n h = from_front 0 n (omega arith)

-- bytes that were put into the front of a buffer's part
front_put : (out xs : List ℕ) (r : ℕ) → length xs ≤ r → r ≤ length out → splice (take r out) 0 xs ++ drop r out ≡ xs ++ drop (length xs) out
unfolding splice
front_put out xs r h k =
    let t : length xs ≤ length (take r out) = simp length-take (omega arith) in
    rw (zero-add, append_assoc xs (drop (length xs) (take r out)) (drop r out), ← drop-append-le (length xs) (take r out) (drop r out) t, take-append-drop)

-- ---- what the call `view` says of a part of the bytes

module _ (bs : List ℕ) (b : Bytes bs) (l rows : ℕ) (out part : List ℕ) (r : ℕ) (f : RoomFor (length out) rows r) where
  part_length : length (take r out) ≡ r
  part_length = length-take-le r out f.within

  pub within_refused : (q : Refusal) → Answers (view_outcome bs l (length (take r out))) (take r out) (Err q) part
      → Within (load_outcome bs l (length out) rows) rows out (Err q) (part ++ drop r out)
  unfolding answer_of left_in instead row_after segments_in
  within_refused q a =
      let e : view_outcome bs l r ≡ refused q = rw part_length at (said_refused _ _ _ _ a) in
      let o : load_outcome bs l (length out) rows ≡ refused q = load_is bs l (length out) rows r f ∙ rw e in
      let p : part ≡ take r out = rw (part_length, e) at a.leaves.0 in
      let same : part ++ drop r out ≡ out = rw (p, take-append-drop) in
      rw o (record { answers = refl; leaves = same; written = zero-le; room = zero-le; fills = λ row. filled_start (part ++ drop r out) row })

  -- the same of plain facts: the view's bytes stand at the front of the part
  module _ (pass : All Passes (records bs)) (c : l ≤ chunk) (h : length (view_bytes bs l) ≤ r) (e : view_outcome bs l r ≡ done (view_bytes bs l)) (p : part ≡ splice (take r out) 0 (view_bytes bs l)) where
    after_is : part ++ drop r out ≡ view_bytes bs l ++ drop (length (view_bytes bs l)) out
    after_is = rw p (front_put out (view_bytes bs l) r h f.within)

    -- read back they are the view
    back : records_from (view_bytes bs l) 0 (length (view (records bs) l)) ≡ view (records bs) l
    unfolding records
    back =
        let v = view_back bs b pass l c in
        let k : count (view_bytes bs l) ≡ length (view (records bs) l) = sym (length-records (view_bytes bs l)) ∙ ap length v in
        rw (← k) v

    fills : (row : List Record) → filled (part ++ drop r out) row (length (view (records bs) l)) ≡ view (records bs) l ++ drop (length (view (records bs) l)) row
    unfolding filled
    fills row =
        ap (λ (xs : List ℕ). records_from xs 0 (length (view (records bs) l)) ++ drop (length (view (records bs) l)) row) after_is
        ∙ ap (λ (vs : List Record). vs ++ drop (length (view (records bs) l)) row)
        (records_front (view_bytes bs l) (drop (length (view_bytes bs l)) out) (length (view (records bs) l)) (omega (arith, lengths bs l (length out) rows r f)) ∙ back)

    leaves : part ++ drop r out ≡ splice out 0 (encode_all (view (records bs) l))
    unfolding splice view_bytes
    leaves = after_is ∙ rw zero-add

    written : length (view (records bs) l) ≤ count (part ++ drop r out)
    unfolding count
    written = omega (arith, ap length after_is, length-append (view_bytes bs l) (drop (length (view_bytes bs l)) out), lengths bs l (length out) rows r f)

    as_written : (n : ℕ) → n ≡ length (view_bytes bs l) → Within (load_outcome bs l (length out) rows) rows out (Ok (n / record_size)) (part ++ drop r out)
    unfolding answer_of left_in instead row_after segments_in
    as_written n en =
        let k : n / record_size ≡ length (view (records bs) l) = omega (arith, lengths bs l (length out) rows r f) in
        let o : load_outcome bs l (length out) rows ≡ done (view (records bs) l) = load_is bs l (length out) rows r f ∙ rw e in
        rw (o, k) (
        record {
          answers = refl;
          leaves = leaves;
          written = written;
          room = (f.both (length (view (records bs) l)) (omega (arith, lengths bs l (length out) rows r f))).1;
          fills = fills;
        }
        )

  pub within_wrote : (n : ℕ) → Answers (view_outcome bs l (length (take r out))) (take r out) (Ok n) part
      → Within (load_outcome bs l (length out) rows) rows out (Ok (n / record_size)) (part ++ drop r out)
  unfolding left_in
  within_wrote n a =
      let a' : Answers (view_outcome bs l r) (take r out) (Ok n) part = rw part_length at a in
      let w = said_wrote (view_outcome bs l r) (take r out) part n a' in
      let e : view_outcome bs l r ≡ done w.bytes = w.outcome in
      let d = view_done bs b l r w.bytes e in
      let v : w.bytes ≡ view_bytes bs l = d.2 in
      let p : part ≡ splice (take r out) 0 w.bytes = rw e at a'.leaves.0 in
      as_written d.0.pass d.1 (rw v at (view_fits bs l r w.bytes e).1) (rw v at e) (rw v at p) n (w.first.counted ∙ ap length v)

-- ---- the whole

-- what is filled from such bytes is what the outcome says
pub loads : (o : Outcome (List Record)) (bytes : List ℕ) (row : List Record) (x : Result ℕ Refusal) (bytes_after : List ℕ) (after : List Record) (n : ℕ) → Within o (length row) bytes x bytes_after → n ≡ segments_in x
    → after ≡ filled bytes_after row n → Loads o bytes row x bytes_after after
loads o bytes row x bytes_after after n w e h = record { answers = w.answers; leaves = w.leaves; fills = h ∙ ap (filled bytes_after row) e ∙ w.fills row }

-- a refused view leaves the row as it was
pub loads_refused : (o : Outcome (List Record)) (bytes : List ℕ) (row : List Record) (r : Refusal) (bytes_after : List ℕ) → Within o (length row) bytes (Err r) bytes_after
    → Loads o bytes row (Err r) bytes_after row
unfolding segments_in
loads_refused o bytes row r bytes_after w = loads o bytes row (Err r) bytes_after row 0 w refl (sym (filled_start bytes_after row))
