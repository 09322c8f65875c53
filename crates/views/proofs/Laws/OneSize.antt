-- The view and the tidied list of a list with one size a slice have one size a slice, and an accepted list's tidied bytes are accepted again.
-- Assumes nothing.
use Prim.Native.Nat.{ℕ, ◌≤◌}
use native.Mathlib.Omega.{arith}
use mathlib.Core.Path.{◌≡◌}
use mathlib.Core.Bool.{false}
use mathlib.Core.List.{List, ◌++◌}
use lib.ListN.{length, take}
use borrow.Author.Tests.{ltb-false}
use Rattle.codec.specs.All.{Bytes}
use Rattle.codec.proofs.Laws.All.{all_append, all_left, all_right}
use Rattle.outcomes.specs.Outcome.{done, Row}
use Rattle.outcomes.specs.Answers.{Answers}
use Rattle.outcomes.proofs.Laws.Outcome.{done_none, done_is}
use Rattle.outcomes.proofs.Laws.Answers.{said_wrote}
use Rattle.slices.specs.Limits.{chunk, max_records}
use Rattle.slices.specs.Record.{count, records}
use Rattle.slices.specs.OneSize.{OneSize}
use Rattle.slices.specs.Accepts.{Accepts}
use Rattle.slices.specs.Refusals.{list_rows}
use Rattle.slices.proofs.Laws.Firsts.{records_fit}
use Rattle.slices.proofs.Laws.OneSize.{Sized, sizes_of, one_size_table, table_one_size}
use Rattle.slices.proofs.Laws.Record.{length-encode_all, records_back}
use Rattle.slices.proofs.Laws.Refusals.{none_accepts}
use Rattle.views.specs.View.{view, tidied, tidied_bytes}
use Rattle.views.specs.Calls.{tidied_too_long, tidy_rows, tidy_outcome}
use Rattle.views.proofs.Laws.Fits.{view_sized, tidied_sized, tidied_passes, tidied_fits}
use Rattle.slices.specs.declared.Record.{Record}
use Rattle.std.specs.Prelude.{Ok}

pub view_one_size : (rs : List Record) → OneSize rs → (l : ℕ) → l ≤ chunk → OneSize (view rs l)
view_one_size rs h l c = table_one_size (sizes_of rs) (view rs l) (view_sized (sizes_of rs) rs (one_size_table rs h) l c)

-- whichever run of records inside a list is replaced by its tidied run, each slice keeps its size
pub replaced_one_size : (xs ys zs : List Record) → OneSize (xs ++ (ys ++ zs)) → OneSize (xs ++ (tidied ys ++ zs))
replaced_one_size xs ys zs h =
    let t = one_size_table (xs ++ (ys ++ zs)) h in
    let P = Sized (sizes_of (xs ++ (ys ++ zs))) in
    let rest = all_right P xs (ys ++ zs) t in
    table_one_size (sizes_of (xs ++ (ys ++ zs))) (xs ++ (tidied ys ++ zs))
    (all_append P xs (tidied ys ++ zs) (all_left P xs (ys ++ zs) t)
    (all_append P (tidied ys) zs (tidied_sized (sizes_of (xs ++ (ys ++ zs))) ys (all_left P ys zs rest)) (all_right P ys zs rest)))

pub tidied_one_size : (rs : List Record) → OneSize rs → OneSize (tidied rs)
tidied_one_size rs h = table_one_size (sizes_of rs) (tidied rs) (tidied_sized (sizes_of rs) rs (one_size_table rs h))

-- ---- as bytes

module _ (bs : List ℕ) (b : Bytes bs) where
  -- but for the limit of refusal 2
  pub tidied_accepted : Accepts bs → length (tidied (records bs)) ≤ max_records → Accepts (tidied_bytes (records bs))
  unfolding tidied_bytes count
  tidied_accepted a h =
      let back = records_back (tidied (records bs)) (tidied_fits (records bs) a.pass (records_fit bs b)) in
      let l = length-encode_all (tidied (records bs)) in
      record {
        whole = omega arith;
        few = omega arith;
        pass = rw back (tidied_passes (records bs) a.pass);
        one_size = rw back (tidied_one_size (records bs) a.one_size);
      }

  -- which is that of refusal 11 too: what the call wrote is accepted
  pub tidied_done_accepted : (room : ℕ) (ts : List ℕ) → tidy_outcome bs room ≡ done ts → Accepts ts
  unfolding tidy_outcome tidy_rows tidied_too_long
  tidied_done_accepted room ts e =
      let none = done_none (tidied_bytes (records bs)) (tidy_rows bs room) ts e in
      let list = none_accepts bs (all_left (λ (r : Row). r.test ≡ false) (list_rows bs) _ none) in
      let later = all_right (λ (r : Row). r.test ≡ false) (list_rows bs) _ none in
      rw (done_is (tidied_bytes (records bs)) (tidy_rows bs room) ts e) (tidied_accepted list (ltb-false max_records (length (tidied (records bs))) later.0))

  pub tidied_wrote_accepted : (before after : List ℕ) (n : ℕ) → Answers (tidy_outcome bs (length before)) before (Ok n) after → Accepts (take n after)
  tidied_wrote_accepted before after n a =
      let w = said_wrote (tidy_outcome bs (length before)) before after n a in
      rw w.first.front (tidied_done_accepted (length before) w.bytes w.outcome)
