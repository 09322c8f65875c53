-- Laws of keys in order, as one goes over them from the first place that is not filled. Assumes nothing.
use Prim.Native.Nat.{ℕ, suc, ◌+◌, ◌≤◌, ◌<◌}
use native.Mathlib.Omega.{arith}
use native.Mathlib.Decide.{ℕ_discrete}
use native.Mathlib.Numerals.{add-one}
use mathlib.Core.Path.{◌≡◌, ap, ◌∙◌}
use mathlib.Core.Bool.{Bool, true, false}
use mathlib.Core.List.{List}
use lib.Dec.{ltb}
use lib.ListN.{get_or}
use borrow.Author.Tests.{lt-ltb, le-ltb, le-leb, lt-leb}
use Rattle.sorting.specs.Sorted.{Sorted}
use Rattle.coverage.specs.Inner.{one_if, count_below, spans, start_at, len_at, keyed, filled, Lying, Chained}
use Rattle.coverage.proofs.Laws.Count.{count_grows, count_rest, count_order, spans_next}

-- the k-th key in order holds p
pub kth : (keys order : List ℕ) (p k : ℕ) → Bool
kth keys order p k = spans (start_at keys (get_or order k 0)) (len_at keys (get_or order k 0)) p

-- the first k in order, and what fills the places before `cur`, fill each place before q once, and no other
abbrev pub Walked : (keys order : List ℕ) (cur k q : ℕ) → Type 0
Walked keys order cur k q = (p : ℕ) → one_if (ltb p cur) + count_below (kth keys order p) k ≡ one_if (ltb p q)

pub walked_none : (keys order : List ℕ) (cur : ℕ) → Walked keys order cur 0 cur
unfolding count_below
walked_none keys order cur p = omega arith

-- one that begins where they end
pub walked_more : (keys order : List ℕ) (cur k q v : ℕ) → v ≡ get_or order k 0 → start_at keys v ≡ q → Walked keys order cur k q
    → Walked keys order cur (k + 1) (start_at keys v + len_at keys v)
unfolding count_below kth
walked_more keys order cur k q v e f h p =
    rw (add-one k, ← e) (omega (arith, h p, spans_next (start_at keys v) (len_at keys v) p, ap (λ (x : ℕ). one_if (ltb p x)) f))

module _ (keys order : List ℕ) (c cur : ℕ) (sorted : Sorted keys c order) where
  -- no key is less than an earlier one
  later : (j k : ℕ) → j ≤ k → k < c → get_or keys (get_or order j 0) 0 ≤ get_or keys (get_or order k 0) 0
  later j k l m = go (ℕ_discrete j k)
    where
      go : Dec (j ≡ k) → get_or keys (get_or order j 0) 0 ≤ get_or keys (get_or order k 0) 0
      go (yes e) = rw e (omega arith)
      go (no e) = sorted.rising j k (omega arith) m

  -- all keys, in order or not
  in_order : (p : ℕ) → filled keys c cur p ≡ one_if (ltb p cur) + count_below (kth keys order p) c
  unfolding keyed kth
  in_order p =
      omega (arith, count_order (λ (v : ℕ). spans (start_at keys v) (len_at keys v) p) (λ (k : ℕ). get_or order k 0) c sorted.all)

  module _ (k q : ℕ) (h : Walked keys order cur k q) where
    -- none are left
    pub chained_end : c ≤ k → k ≤ c → Chained keys c cur q
    chained_end a b =
        record {
          once = λ p l. all p ∙ ap one_if (lt-ltb p q l);
          other = λ x. omega (arith, all q, ap one_if (le-ltb q q (omega arith)));
          all = λ _. all;
        }
      where
        all : (p : ℕ) → filled keys c cur p ≡ one_if (ltb p q)
        all p =
            let e : c ≡ k = omega arith in
            in_order p ∙ rw e (h p)

    module _ (v : ℕ) (l : k < c) (e : v ≡ get_or order k 0) where
      -- what lies before the next one
      so_far : (p : ℕ) → p < start_at keys v → filled keys c cur p ≡ one_if (ltb p q)
      unfolding kth spans
      so_far p b = in_order p ∙ omega (arith, h p, count_rest (kth keys order p) k c (omega arith) none)
        where
          none : (j : ℕ) → k ≤ j → j < c → kth keys order p j ≡ false
          none j x y =
              let s : start_at keys v ≤ start_at keys (get_or order j 0) = rw e (omega (arith, later k j x y)) in
              rw (lt-leb (start_at keys (get_or order j 0)) p (omega arith))

      -- the next one begins too early
      pub chained_twice : Lying keys c → start_at keys v < q → Chained keys c cur (start_at keys v)
      unfolding kth spans count_below
      chained_twice lying s =
          record {
            once = λ p b. so_far p b ∙ ap one_if (lt-ltb p q (omega arith));
            other = λ x. omega (arith, twice);
            all = λ f. absurd (omega (arith, f v (rw e (sorted.within k l))));
          }
        where
          twice : 2 ≤ filled keys c cur (start_at keys v)
          twice =
              let p = start_at keys v in
              let some = (lying v (rw e (sorted.within k l))).0 in
              let here : kth keys order p k ≡ true = rw (← e, le-leb p p (omega arith), lt-ltb p (p + len_at keys v) (omega arith)) in
              omega (arith, in_order p, h p, ap one_if (lt-ltb p q s), ap one_if here, count_grows (kth keys order p) (suc k) c l)

      -- the next one begins too late
      pub chained_gap : q < start_at keys v → Chained keys c cur q
      chained_gap s =
          record {
            once = λ p b. so_far p (omega arith) ∙ ap one_if (lt-ltb p q b);
            other = λ x. omega (arith, so_far q s, ap one_if (le-ltb q q (omega arith)));
            all = λ f. absurd (omega (arith, f v (rw e (sorted.within k l))));
          }
