-- Every plan of ours is accepted, and so is every cut of it, in any order. Assumes nothing.
use Prim.Native.Nat.{ℕ, zero, suc, ◌+◌, ◌/◌, ◌%◌, ◌^◌, ◌<◌, ◌≤◌}
use native.Mathlib.Omega.{arith}
use native.Mathlib.Nat.{add-zero}
use mathlib.Core.Path.{◌≡◌, ap, ◌∙◌}
use mathlib.Core.Bool.{false}
use mathlib.Core.List.{List, [], ◌∷◌, map}
use lib.ListN.{length, get_or, take, drop, length-map}
use Rattle.codec.specs.All.{All, Bytes}
use Rattle.codec.proofs.Laws.All.{all_take, all_drop, all_left}
use Rattle.outcomes.specs.Outcome.{done, RowOf, NoneHolds}
use Rattle.outcomes.proofs.Laws.Outcome.{done_none, done_is}
use Rattle.slices.specs.Accepts.{Accepts}
use Rattle.slices.specs.Limits.{chunk}
use Rattle.slices.specs.Passes.{Passes}
use Rattle.slices.specs.Record.{Fits, records}
use Rattle.slices.proofs.Laws.Firsts.{records_fit}
use Rattle.runs.specs.Runs.{Run, Valid, join, runs}
use Rattle.joined.specs.Lists.{parts}
use Rattle.joined.proofs.Laws.Lists.{parts-length}
use Rattle.joined.proofs.Laws.Refusals.{none_lists}
use Rattle.plans.specs.Location.{Site, next_site}
use Rattle.plans.specs.Piece.{encode_pieces, in_chunk}
use Rattle.plans.specs.Plan.{cut_to, location_from, pieces}
use Rattle.plans.proofs.Laws.Fits.{pieces_fit}
use Rattle.files.specs.Calls.{lists_in, chunks_rows, file_rows, file_bytes, file_outcome}
use Rattle.files.specs.Limits.{max_lists}
use Rattle.files.specs.File.{list_of, site_at, site_from, file_end, file_plan}
use Rattle.files.proofs.Laws.Bytes.{file_plan_divides}
use Rattle.files.proofs.Laws.Chunks.{right_chunks}
use Rattle.files.proofs.Laws.Chunks as chunks
use Rattle.coverage.specs.Held.{holders}
use Rattle.judging.specs.Calls.{site_in, read_length, judge_outcome}
use Rattle.judging.specs.Cuts.{CutUp, Reordered}
use Rattle.judging.specs.Judge.{accepted}
use Rattle.judging.proofs.Laws.Calls.{judge_answered}
use Rattle.judging.proofs.Laws.Cuts.{cut_right, cut_held, order_all, order_held}
use Rattle.judging.proofs.Laws.Right.{Right}
use Rattle.judging.proofs.Laws.Runs.{runs_right, runs_once}
use Rattle.judging.proofs.Laws.Written.{SiteFits, written_accepted}
use Rattle.joined.specs.Refusals.{ListRefusal}
use Rattle.slices.specs.declared.Record.{Record}

-- ---- the lists

abbrev Sound : List Record → Type 0
Sound rs = All Passes rs × All Fits rs

lists_sound : (ns bs : List ℕ) → Bytes bs → All Accepts (parts ns bs) → All Sound (map records (parts ns bs))
unfolding parts
lists_sound [] bs b a = tt
lists_sound (n ∷ ns) bs b a = ((a.0.pass, records_fit (take n bs) (all_take _ n bs b)), lists_sound ns (drop n bs) (all_drop _ n bs b) a.1)

sound_at : (ls : List (List Record)) → All Sound ls → (k : ℕ) → Sound (get_or ls k [])
sound_at [] h k = (tt, tt)
sound_at (l ∷ ls) h zero = h.0
sound_at (l ∷ ls) h (suc k) = sound_at ls h.1 k

-- ---- where their bytes lie fits

site_fits : (first B : ℕ) (ls : List (List Record)) → All Sound ls → (q : ℕ) → first + q / chunk < 2 ^ 32 → SiteFits (site_at first B ls q)
unfolding site_at list_of pieces location_from runs join in_chunk
site_fits first B ls s q l =
    let rs = list_of ls q in
    let h = sound_at ls s (q / chunk) in
    rw (add-zero (q % chunk)) at (pieces_fit B rs h.0 h.1 (first + q / chunk) l 0 (q % chunk) 1 (omega arith)).0

inside : (first file_len lists start count i : ℕ) → i < cut_to (file_end first file_len lists) start count → (start + i) / chunk < lists
unfolding cut_to file_end chunk
inside first file_len lists start count i h = omega arith

low : (first file_len lists start count : ℕ) → lists ≤ max_lists → cut_to (file_end first file_len lists) start count < 2 ^ 32
unfolding cut_to file_end chunk
low first file_len lists start count h = omega arith

module _ (bs lengths : List ℕ) (b : Bytes bs) (first file_len B start count : ℕ) (none : NoneHolds (chunks_rows bs lengths first B)) where
  abbrev f : ℕ → Site
  f = site_in bs lengths first B start

  abbrev n : ℕ
  n = read_length bs lengths first file_len start count

  abbrev plan : List (Run Site)
  plan = file_plan first B (lists_in bs lengths) file_len start count

  right : chunks.Right lengths (length bs) first
  unfolding chunks_rows
  right = right_chunks lengths (length bs) first none.0

  as_many : length (lists_in bs lengths) ≡ length lengths
  unfolding lists_in
  as_many = rw length-map (parts-length lengths bs)

  fits : (i : ℕ) → i < n → SiteFits (f i)
  unfolding chunks_rows lists_in site_in site_from read_length
  fits i l =
      let s = lists_sound lengths bs b (none_lists first (parts lengths bs) none.1.1) in
      site_fits first B (lists_in bs lengths) s (start + i) (omega (arith, right.indexes, as_many, inside first file_len (length (lists_in bs lengths)) start count i l))

  -- pieces that are right and hold each byte once make a plan that is accepted
  held_accepted : (ys : List (Run Site)) → All (Right f n) ys → ((i : ℕ) → i < n → holders ys i ≡ 1)
      → judge_outcome bs lengths first file_len B start count (encode_pieces ys) ≡ done accepted
  unfolding read_length
  held_accepted ys a once =
      let m = low first file_len (length (lists_in bs lengths)) start count (omega (arith, right.few, as_many)) in
      judge_answered bs lengths first file_len B start count (encode_pieces ys) none ∙ ap done (written_accepted f n m fits ys a once)

  divides : Valid next_site f 0 n plan
  unfolding site_in read_length
  divides = file_plan_divides first B (lists_in bs lengths) file_len start count

  pub plan_accepted : judge_outcome bs lengths first file_len B start count (encode_pieces plan) ≡ done accepted
  plan_accepted = held_accepted plan (runs_right f n 0 plan divides) (runs_once f n plan divides)

  -- "every cut of it into shorter pieces, in any order"
  pub cuts_accepted : (xs ys : List (Run Site)) → CutUp plan xs → Reordered xs ys → judge_outcome bs lengths first file_len B start count (encode_pieces ys) ≡ done accepted
  cuts_accepted xs ys c o =
      held_accepted ys (order_all (Right f n) o (cut_right f n c (runs_right f n 0 plan divides)))
      (λ i l. order_held i o ∙ cut_held i c ∙ runs_once f n plan divides i l)

pub ours_accepted : (bs lengths : List ℕ) → Bytes bs → (first file_len B start count room : ℕ) (out : List ℕ) → file_outcome bs lengths first file_len B start count room ≡ done out
    → judge_outcome bs lengths first file_len B start count out ≡ done accepted
unfolding file_outcome file_rows file_bytes
ours_accepted bs lengths b first file_len B start count room out h =
    let bytes = file_bytes bs lengths first file_len B start count in
    let rows = file_rows bs lengths first file_len B start count room in
    let none = all_left (λ (r : RowOf ListRefusal). r.test ≡ false) (chunks_rows bs lengths first B) _ (done_none bytes rows out h) in
    ap (judge_outcome bs lengths first file_len B start count) (done_is bytes rows out h) ∙ plan_accepted bs lengths b first file_len B start count none
