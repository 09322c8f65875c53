-- Laws of how many pieces hold a place. Assumes nothing.
use Prim.Native.Nat.{ℕ, zero, suc, ◌+◌, ◌*◌, ◌/◌, ◌≤◌, ◌<◌}
use native.Mathlib.Omega.{arith}
use native.Mathlib.Nat.{zero-add}
use mathlib.Core.Path.{◌≡◌, refl, sym, ap, ◌∙◌}
use mathlib.Core.Logic.{◌≢◌}
use mathlib.Core.Bool.{Bool, true, false, not, cond}
use mathlib.Core.List.{List, [], ◌∷◌, ◌++◌}
use lib.Dec.{leb, eqb, ltb}
use lib.ListN.{length}
use borrow.Author.Tests.{le-leb, leb-true, ltb-true, le-ltb, lt-ltb, eq-eqb, ne_eqb, eqb-true, eqb-false, not-true, not-false}
use Rattle.codec.specs.Groups.{groups_from, groups}
use Rattle.codec.proofs.Laws.Bools.{and_both}
use Rattle.codec.proofs.Laws.Groups.{groups_more}
use Rattle.runs.specs.Runs.{Run}
use Rattle.plans.specs.Location.{Site}
use Rattle.plans.specs.Piece.{piece_size, decode_run, pieces_in}
use Rattle.coverage.specs.Least.{least}
use Rattle.coverage.specs.Held.{holds, holders, not_once, first_not_once}
use Rattle.coverage.specs.Inner.{InOrder, one_if, count_below, spans, run_at}
use Rattle.coverage.proofs.Laws.Least.{least_is, least_true, least_before}
use Rattle.coverage.proofs.Laws.Count.{spans_next}

-- ---- one piece

pub holds_in : (r : Run Site) (p : ℕ) → r.start ≤ p → p < r.start + r.len → holds r p ≡ true
unfolding holds
holds_in r p a b = rw (le-leb r.start p a, lt-ltb p (r.start + r.len) b)

pub holds_both : (r : Run Site) (p : ℕ) → holds r p ≡ true → (r.start ≤ p) × (p < r.start + r.len)
unfolding holds
holds_both r p h =
    let b = and_both (leb r.start p) (ltb p (r.start + r.len)) h in
    (leb-true r.start p b.0, ltb-true p (r.start + r.len) b.1)

-- ---- the first place that is not held once

pub first_is : (rs : List (Run Site)) (n q : ℕ) → q ≤ n → ((p : ℕ) → p < q → holders rs p ≡ 1) → (q < n → holders rs q ≢ 1) → first_not_once rs n ≡ q
unfolding first_not_once not_once
first_is rs n q l once other =
    least_is (not_once rs) n q l (λ p h. ap not (eq-eqb (holders rs p) 1 (once p h))) (λ h. ap not (ne_eqb (holders rs q) 1 (other h)))

pub first_none : (rs : List (Run Site)) (n : ℕ) → ((i : ℕ) → i < n → holders rs i ≡ 1) → first_not_once rs n ≡ n
first_none rs n once = first_is rs n n (omega arith) once (λ h. absurd (omega arith))

pub first_before : (rs : List (Run Site)) (n p : ℕ) → p < first_not_once rs n → holders rs p ≡ 1
unfolding first_not_once not_once
first_before rs n p h = eqb-true (holders rs p) 1 (not-false (eqb (holders rs p) 1) (least_before (not_once rs) n p h))

pub first_other : (rs : List (Run Site)) (n : ℕ) → first_not_once rs n < n → holders rs (first_not_once rs n) ≢ 1
unfolding first_not_once not_once
first_other rs n h =
    let q = least (not_once rs) n in
    eqb-false (holders rs q) 1 (not-true (eqb (holders rs q) 1) (least_true (not_once rs) n h))

-- ---- by number

-- one piece more at the end
holders_more : (rs : List (Run Site)) (r : Run Site) (p : ℕ) → holders (rs ++ (r ∷ [])) p ≡ holders rs p + one_if (holds r p)
unfolding holders
holders_more [] r p = go (holds r p)
  where
    go : (b : Bool) → cond b (suc zero) zero ≡ 0 + one_if b
    go true = refl
    go false = refl
holders_more (x ∷ rs) r p = go (holds x p) (holders_more rs r p)
  where
    go : (b : Bool) → holders (rs ++ (r ∷ [])) p ≡ holders rs p + one_if (holds r p)
        → cond b (suc (holders (rs ++ (r ∷ [])) p)) (holders (rs ++ (r ∷ [])) p) ≡ cond b (suc (holders rs p)) (holders rs p) + one_if (holds r p)
    go true e = omega arith
    go false e = e

first_count : (plan : List ℕ) (p n : ℕ) → holders (groups_from decode_run piece_size plan 0 n) p ≡ count_below (λ (i : ℕ). holds (run_at plan i) p) n
unfolding count_below groups_from holders
first_count plan p zero = refl
first_count plan p (suc n) =
    ap (λ (rs : List (Run Site)). holders rs p) (groups_more decode_run piece_size plan 0 n)
    ∙ holders_more (groups_from decode_run piece_size plan 0 n) (decode_run plan ((0 + n) * piece_size)) p
    ∙ rw (zero-add, first_count plan p n)

pub holders_count : (plan : List ℕ) (p : ℕ) → holders (pieces_in plan) p ≡ count_below (λ (i : ℕ). holds (run_at plan i) p) (length plan / piece_size)
unfolding pieces_in groups
holders_count plan p = first_count plan p (length plan / piece_size)

-- ---- one behind the other

in_order_count : (plan : List ℕ) (k place p : ℕ) → InOrder plan k place → count_below (λ (i : ℕ). holds (run_at plan i) p) k ≡ one_if (ltb p place)
unfolding count_below holds spans
in_order_count plan zero place p h = sym (ap one_if (le-ltb p place (omega arith)))
in_order_count plan (suc k) place p h =
    let r = run_at plan k in
    rw (← h.0) (omega (arith, in_order_count plan k r.start p h.1, spans_next r.start r.len p))

-- pieces that stand one behind the other hold each place once; an empty one holds none
pub in_order_once : (plan : List ℕ) (n : ℕ) → InOrder plan (length plan / piece_size) n → (i : ℕ) → i < n → holders (pieces_in plan) i ≡ 1
in_order_once plan n h i l =
    holders_count plan i ∙ in_order_count plan (length plan / piece_size) n i h ∙ ap one_if (lt-ltb i n l)

-- the place behind the last of them is the first that is not held once
pub in_order_first : (plan : List ℕ) (n place : ℕ) → InOrder plan (length plan / piece_size) place → place ≤ n → place ≡ first_not_once (pieces_in plan) n
in_order_first plan n place h l =
    let none : holders (pieces_in plan) place ≡ 0
    = holders_count plan place ∙ in_order_count plan (length plan / piece_size) place place h ∙ ap one_if (le-ltb place place (omega arith)) in
    sym (first_is (pieces_in plan) n place l (in_order_once plan place h) (λ _ e. omega arith))
