-- The check of joined lists, list by list: what is still to be checked decides. Assumes nothing.
use Prim.Native.Nat.{ℕ, suc, ◌+◌, ◌-◌, ◌<◌, ◌≤◌}
use native.Mathlib.Omega.{arith}
use native.Mathlib.Numerals.{add-one}
use mathlib.Core.Path.{◌≡◌, sym, ap, ◌∙◌}
use mathlib.Core.List.{List, ◌∷◌}
use lib.ListN.{length, take, drop, get_or, drop_of_length-le}
use Rattle.outcomes.specs.Outcome.{done, first_of}
use Rattle.outcomes.specs.Answers.{answer_of}
use Rattle.slices.specs.Record.{count}
use Rattle.slices.specs.Refusals.{check_outcome, checked}
use Rattle.slices.proofs.Laws.Refusals.{check_accepts, check_stops}
use Rattle.std.specs.Prelude.{Ok, Err}
use Rattle.joined.specs.Lists.{total, parts}
use Rattle.joined.specs.Refusals.{of_list, lists_rows, lists_outcome, checked_lists}
use Rattle.joined.proofs.Laws.Lists.{parts-length, Gone, gone_start, gone_next, next_list}
use Rattle.joined.proofs.Laws.Refusals.{list_refuses, list_passes}
use Rattle.outcomes.specs.Outcome.{Refusal}

-- k lists are accepted, and their bytes end at `at`
pub record Ahead (first : ℕ) (ns bs : List ℕ) (at k : ℕ) : Type 0 where
  pub gone : Gone ns bs at k
  pub decides : lists_outcome first (parts ns bs) ≡ first_of (lists_rows (first + k) (parts (drop k ns) (drop at bs))) (done (length ns))

module _ (first : ℕ) (ns bs : List ℕ) where
  pub ahead_start : total ns ≡ length bs → Ahead first ns bs 0 0
  unfolding lists_outcome
  ahead_start h =
      let z : first + 0 ≡ first = omega arith in
      record { gone = gone_start ns bs h; decides = rw (z, parts-length ns bs) }

  module _ (at k : ℕ) (a : Ahead first ns bs at k) where
    -- the next list, which stands up to `end`
    module _ (h : k < length ns) (end : ℕ) (e : end ≡ at + get_or ns k 0) where
      decided : lists_outcome first (parts ns bs)
          ≡ first_of (lists_rows (first + k) (take (end - at) (drop at bs) ∷ parts (drop (suc k) ns) (drop end bs))) (done (length ns))
      decided = a.decides ∙ rw (next_list ns bs at k a.gone h end e)

      pub ahead_next : (m : ℕ) → checked (check_outcome (take (end - at) (drop at bs))) ≡ Ok m → Ahead first ns bs end (k + 1)
      ahead_next m c =
          let part = take (end - at) (drop at bs) in
          let z : suc (first + k) ≡ first + suc k = omega arith in
          record {
            gone = rw add-one (gone_next ns bs at k a.gone h end e);
            decides = rw (add-one, ← z) (decided ∙ list_passes (first + k) part (parts (drop (suc k) ns) (drop end bs)) _ (check_accepts _ m c));
          }

      pub ahead_refused : (r : Refusal) → checked (check_outcome (take (end - at) (drop at bs))) ≡ Err r
          → Err (of_list (first + k) r) ≡ checked_lists (lists_outcome first (parts ns bs))
      unfolding answer_of check_outcome
      ahead_refused r c =
          let part = take (end - at) (drop at bs) in
          let e = check_stops part (done (count part)) r c in
          sym (ap checked_lists (decided ∙ list_refuses (first + k) part (parts (drop (suc k) ns) (drop end bs)) _ r e))

    pub ahead_end : length ns ≤ k → Ok (length ns) ≡ checked_lists (lists_outcome first (parts ns bs))
    unfolding answer_of parts lists_rows first_of
    ahead_end h =
        let none = drop_of_length-le ns h in
        sym (ap checked_lists (rw none at a.decides))
