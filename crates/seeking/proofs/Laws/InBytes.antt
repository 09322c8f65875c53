-- The same of bytes: what is found in any holds the position, and in those of a view every position below its end is found; so too in those that the
-- call `view` wrote. Assumes nothing.
use Prim.Native.Nat.{ℕ, zero, suc, ◌+◌, ◌*◌, ◌/◌, ◌%◌, ◌<◌, ◌≤◌, min}
use native.Mathlib.Omega.{arith}
use native.Mathlib.Nat.{add-zero}
use mathlib.Core.Path.{◌≡◌, sym, ap, ◌∙◌}
use mathlib.Core.List.{List}
use lib.ListN.{length, take, get_or, length-take}
use lib.Seq.{get_or-take}
use Rattle.codec.specs.All.{All, Bytes}
use Rattle.codec.specs.Groups.{groups_from}
use Rattle.outcomes.specs.Outcome.{done}
use Rattle.outcomes.specs.Answers.{Answers}
use Rattle.outcomes.proofs.Laws.Outcome.{done_is}
use Rattle.std.specs.Prelude.{Ok}
use Rattle.slices.specs.Limits.{record_size, chunk}
use Rattle.slices.specs.Passes.{Passes}
use Rattle.slices.specs.Record.{decode, record_at, records_from, count, records}
use Rattle.slices.proofs.Laws.Record.{length-encode_all, length-records}
use Rattle.slices.proofs.Laws.Firsts.{firsts_records}
use Rattle.slices.specs.declared.Record.{Record}
use Rattle.views.specs.View.{view}
use Rattle.views.specs.Calls.{view_bytes, view_outcome}
use Rattle.views.proofs.Laws.ViewBack.{view_back, view_wrote}
use Rattle.seeking.specs.Seek.{numbered, seek, seek_view, no_segment}
use Rattle.seeking.specs.Claims.{Holds, FindsIn}
use Rattle.std.specs.Prelude.{Some}
use Rattle.seeking.proofs.Laws.Seek.{found_holds, view_whole}
use Rattle.seeking.proofs.Laws.Loaded.{loaded_finds}

pub view_found_holds : (bs : List ℕ) (segments p k : ℕ) (r : Record) → seek_view bs segments p ≡ done (Some (numbered k r)) → Holds (record_at bs) (min segments (count bs)) p k r
unfolding seek_view
view_found_holds bs segments p k r h = found_holds (record_at bs) (min segments (count bs)) p k r (sym (done_is _ _ (Some (numbered k r)) h))

-- ---- the records of bytes by their places

from_at : (bs : List ℕ) (i n j : ℕ) → j < n → decode bs ((i + j) * record_size) ≡ get_or (groups_from decode record_size bs i n) j no_segment
unfolding groups_from
from_at bs i zero j h = absurd (omega arith)
from_at bs i (suc n) zero h = rw add-zero
from_at bs i (suc n) (suc j) h =
    let e : i + suc j ≡ suc i + j = omega arith in
    rw e (from_at bs (suc i) n j (omega arith))

record_is : (bs : List ℕ) (j : ℕ) → j < count bs → record_at bs j ≡ get_or (records bs) j no_segment
unfolding record_at records records_from
record_is bs j h =
    let e : 0 + j ≡ j = omega arith in
    rw e at (from_at bs 0 (count bs) j h)

-- ---- a view's

module _ (bs : List ℕ) (b : Bytes bs) where
  module _ (pass : All Passes (records bs)) (l : ℕ) (c : l ≤ chunk) where
    abbrev vs : List ℕ
    vs = view_bytes bs l

    counted : count vs ≡ length (view (records bs) l)
    counted = sym (length-records vs) ∙ ap length (view_back bs b pass l c)

    whole : length vs % record_size ≡ 0
    unfolding view_bytes
    whole = omega (arith, length-encode_all (view (records bs) l))

    pub view_finds : FindsIn vs (count vs) l
    view_finds =
        let f = loaded_finds (records bs) l (record_at vs) (λ i h. record_is vs i (omega (arith, counted)) ∙ ap (λ (rs : List Record). get_or rs i no_segment) (view_back bs b pass l c)) in
        let m : min (count vs) (count vs) ≡ count vs = omega arith in
        record {
          found = seek (record_at vs) (count vs);
          answers = λ p. view_whole vs (count vs) p whole ∙ rw m;
          finds = rw counted f;
        }

  -- of the bytes that the call wrote
  pub view_wrote_finds : (l : ℕ) (before after : List ℕ) (n : ℕ) → Answers (view_outcome bs l (length before)) before (Ok n) after
      → FindsIn (take n after) (n / record_size) l
  unfolding count
  view_wrote_finds l before after n a =
      let w = view_wrote bs b l before after n a in
      rw (w.2.front, w.2.counted) (view_finds w.0.pass l w.1)

  -- of the whole buffer: what stands behind the view's segments is not looked at
  pub view_buffer_finds : (l : ℕ) (before after : List ℕ) (n : ℕ) → Answers (view_outcome bs l (length before)) before (Ok n) after
      → Bytes after → length after % record_size ≡ 0 → FindsIn after (n / record_size) l
  unfolding count
  view_buffer_finds l before after n a ba h =
      let w = view_wrote bs b l before after n a in
      let c = counted w.0.pass l w.1 in
      let e = w.2.counted in
      let k : length (view (records bs) l) ≡ n / record_size = sym c ∙ ap (λ (x : ℕ). x / record_size) (sym e) in
      let m : n ≡ n / record_size * record_size = omega (arith, e, whole w.0.pass l w.1) in
      let t : length (take n after) ≡ n = ap length w.2.front ∙ sym e in
      let i : n / record_size ≤ count after = omega (arith, t, length-take n after) in
      let r : take (n / record_size) (records after) ≡ view (records bs) l =
      sym (firsts_records after ba h (n / record_size) i) ∙ ap records (ap (λ (x : ℕ). take x after) (sym m) ∙ w.2.front) ∙ view_back bs b w.0.pass l w.1 in
      let says : (j : ℕ) → j < length (view (records bs) l) → record_at after j ≡ get_or (view (records bs) l) j no_segment =
      λ j g. record_is after j (omega (arith, k)) ∙ sym (get_or-take (n / record_size) (records after) j no_segment (omega (arith, k)))
      ∙ ap (λ (rs : List Record). get_or rs j no_segment) r in
      let q : min (n / record_size) (count after) ≡ n / record_size = omega arith in
      record {
        found = seek (record_at after) (n / record_size);
        answers = λ p. view_whole after (n / record_size) p h ∙ rw q;
        finds = rw k at (loaded_finds (records bs) l (record_at after) says);
      }
