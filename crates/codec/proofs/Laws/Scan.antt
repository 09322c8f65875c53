-- Reading a decimal number is the inverse of writing it. Assumes nothing.
use mathlib.Core.Path.{◌≡◌, refl, sym, ap, ◌∙◌}
use mathlib.Core.Bool.{Bool, true, false, cond, ◌&&◌, and-eq-true_iff}
use mathlib.Core.List.{List, [], ◌∷◌, ◌++◌, append_assoc}
use Prim.Native.Nat.{ℕ, zero, suc, ◌+◌, ◌*◌, ◌/◌, ◌%◌, ◌≤◌, ◌<◌, min}
use native.Mathlib.Omega.{arith}
use native.Mathlib.Nat.{add-zero}
use borrow.Author.Tests.{ltb-true, ltb-false, leb-true, lt-ltb, le-ltb, le-leb}
use lib.Dec.{ltb, leb}
use lib.ListN.{length, drop}
use Rattle.codec.specs.Decimal.{decimal, digit_of}
use Rattle.codec.specs.Scan.{digit_at, parsed, more_digits, decimal_at, DecimalRead}
use Rattle.codec.specs.declared.scan.Parsed.{Parsed}
use Rattle.std.specs.Prelude.{Result, Err}
use Rattle.codec.proofs.Laws.Decimal.{decimal_digit, decimal_more, value, Digits, digit_of_lem, of_digit, value_mono, spelled}

-- what is read is read
pub parsed_err : {A : Type 0} {i j v : ℕ} → ◌≡◌ {A = Result Parsed ℕ} (Err i) (parsed j v) → A
parsed_err e = let z : ◌≡◌ {A = ℕ} 0 1 = cc in absurd (omega arith)

pub parsed_same : {i j v n : ℕ} → parsed i v ≡ parsed j n → (i ≡ j) × (v ≡ n)
parsed_same {i} {j} {v} {n} e =
    let p : ◌≡◌ {A = Parsed} (record { at = i; value = v }) (record { at = j; value = n }) = cc in
    (ap (λ (x : Parsed). x.at) p, ap (λ (x : Parsed). x.value) p)

-- a decimal number with one more digit
pub decimal-add : (v b : ℕ) → 1 ≤ v → digit_of b < 10 → decimal (v * 10 + digit_of b) ≡ decimal v ++ (b ∷ [])
decimal-add v b h d =
    let q : (v * 10 + digit_of b) / 10 ≡ v = omega arith in
    let r : 48 + (v * 10 + digit_of b) % 10 ≡ b = omega (arith, of_digit b d) in
    decimal_more (v * 10 + digit_of b) (omega arith) ∙ rw (q, r)

pub drop_tail : (i : ℕ) (text : List ℕ) (b : ℕ) (rest : List ℕ) → drop i text ≡ b ∷ rest → drop (suc i) text ≡ rest
drop_tail zero [] b rest e = cc
drop_tail zero (a ∷ text) b rest e = cc
drop_tail (suc i) [] b rest e = cc
drop_tail (suc i) (a ∷ text) b rest e = drop_tail i text b rest e

-- what reading further digits finds
record MoreRead (least most v : ℕ) (text t : List ℕ) (j n : ℕ) : Type 0 where
  same : decimal v ++ t ≡ decimal n ++ drop j text
  above : least ≤ n
  within : n ≤ most
  after : 10 ≤ digit_at (drop j text)

more_ends : (least most v i : ℕ) (text t : List ℕ) (j n : ℕ) → v ≤ most → drop i text ≡ t → 10 ≤ digit_at t → (s : Bool) → leb least v ≡ s → cond s (parsed i v) (Err i) ≡ parsed j n → MoreRead least most v text t j n
more_ends least most v i text t j n h e z true l r =
    let q = parsed_same r in
    record { same = rw (← q.0, ← q.1, e); above = omega (arith, leb-true least v l); within = omega arith; after = rw (← q.0, e) z }
more_ends least most v i text t j n h e z false l r = parsed_err r

more_reads : (least most v i : ℕ) (text t : List ℕ) (j n : ℕ) → v ≤ most → drop i text ≡ t → more_digits least most v i t ≡ parsed j n → MoreRead least most v text t j n
unfolding more_digits digit_at
more_reads least most v i text [] j n h e r = more_ends least most v i text [] j n h e (omega arith) (leb least v) refl r
more_reads least most v i text (b ∷ t) j n h e r =
    by_tests (more_reads least most (v * 10 + digit_of b) (suc i) text t j n) (ltb (digit_of b) 10) refl (leb 1 v && leb (v * 10 + digit_of b) most) refl r
  where
    by_tests : (v * 10 + digit_of b ≤ most → drop (suc i) text ≡ t → more_digits least most (v * 10 + digit_of b) (suc i) t ≡ parsed j n → MoreRead least most (v * 10 + digit_of b) text t j n)
        → (s : Bool) → ltb (digit_of b) 10 ≡ s → (u : Bool) → leb 1 v && leb (v * 10 + digit_of b) most ≡ u
        → cond s (cond u (more_digits least most (v * 10 + digit_of b) (suc i) t) (Err i)) (cond (leb least v) (parsed i v) (Err i)) ≡ parsed j n
        → MoreRead least most v text (b ∷ t) j n
    by_tests ih true d true f r =
        let both = (and-eq-true_iff (leb 1 v) (leb (v * 10 + digit_of b) most)).0 f in
        let m = ih (leb-true _ _ both.1) (drop_tail i text b t e) r in
        record {
          same = sym (append_assoc (decimal v) (b ∷ []) t) ∙ rw (← decimal-add v b (leb-true _ _ both.0) (ltb-true _ _ d)) m.same;
          above = m.above;
          within = m.within;
          after = m.after;
        }
    by_tests ih true d false f r = parsed_err r
    by_tests ih false d u f r = more_ends least most v i text (b ∷ t) j n h e (ltb-false _ _ d) (leb least v) refl r

pub decimal_reads : (least most i : ℕ) (text : List ℕ) (j n : ℕ) → decimal_at least most i (drop i text) ≡ parsed j n → DecimalRead least most i text j n
unfolding decimal_at
decimal_reads least most i text j n r = go (drop i text) refl r
  where
    by_test : (b : ℕ) (t : List ℕ) → drop i text ≡ b ∷ t → (s : Bool) → ltb (digit_of b) 10 && (leb (min 1 least) (digit_of b) && leb (digit_of b) most) ≡ s
        → cond s (more_digits least most (digit_of b) (suc i) t) (Err i) ≡ parsed j n → DecimalRead least most i text j n
    by_test b t e true f r =
        let d = (and-eq-true_iff (ltb (digit_of b) 10) (leb (min 1 least) (digit_of b) && leb (digit_of b) most)).0 f in
        let w = (and-eq-true_iff (leb (min 1 least) (digit_of b)) (leb (digit_of b) most)).0 d.1 in
        let m = more_reads least most (digit_of b) (suc i) text t j n (leb-true _ _ w.1) (drop_tail i text b t e) r in
        let one : decimal (digit_of b) ≡ b ∷ [] = decimal_digit (digit_of b) (ltb-true _ _ d.0) ∙ ap (λ (x : ℕ). x ∷ []) (of_digit b (ltb-true _ _ d.0)) in
        record { same = e ∙ ap (λ (l : List ℕ). l ++ t) (sym one) ∙ m.same; above = m.above; within = m.within; after = m.after }
    by_test b t e false f r = parsed_err r

    go : (t : List ℕ) → drop i text ≡ t → decimal_at least most i t ≡ parsed j n → DecimalRead least most i text j n
    go [] e r = parsed_err r
    go (b ∷ t) e r = by_test b t e (ltb (digit_of b) 10 && (leb (min 1 least) (digit_of b) && leb (digit_of b) most)) refl r

-- where no digit follows, the number ends
pub more_end : (least most v i : ℕ) (r : List ℕ) → 10 ≤ digit_at r → more_digits least most v i r ≡ cond (leb least v) (parsed i v) (Err i)
unfolding more_digits digit_at
more_end least most v i [] h = refl
more_end least most v i (b ∷ r) h = simp (le-ltb (digit_of b) 10 h)

more_writes : (least most v i : ℕ) (l r : List ℕ) → 1 ≤ v → Digits l → least ≤ value v l → value v l ≤ most → 10 ≤ digit_at r → more_digits least most v i (l ++ r) ≡ parsed (i + length l) (value v l)
unfolding more_digits value Digits
more_writes least most v i [] r h d lo w end = more_end least most v i r end ∙ rw (le-leb least v lo, add-zero i)
more_writes least most v i (b ∷ l) r h d lo w end =
    let m : v * 10 + digit_of b ≤ most = omega (arith, value_mono (v * 10 + digit_of b) l) in
    simp (lt-ltb (digit_of b) 10 d.0, le-leb 1 v h, le-leb (v * 10 + digit_of b) most m)
    (more_writes least most (v * 10 + digit_of b) (suc i) l r (omega arith) d.1 lo w end ∙ ap (λ (k : ℕ). parsed k (value (v * 10 + digit_of b) l)) (omega arith))

pub decimal_writes : (least most i n : ℕ) (r : List ℕ) → least ≤ n → n ≤ most → 10 ≤ digit_at r → decimal_at least most i (decimal n ++ r) ≡ parsed (i + length (decimal n)) n
unfolding decimal_at
decimal_writes least most i n r h w end = by_test (ltb n 10) refl
  where
    by_test : (t : Bool) → ltb n 10 ≡ t → decimal_at least most i (decimal n ++ r) ≡ parsed (i + length (decimal n)) n
    by_test true e =
        rw (decimal_digit n (ltb-true n 10 e))
        (simp (digit_of_lem n (ltb-true n 10 e), lt-ltb n 10 (ltb-true n 10 e), le-leb (min 1 least) n (omega arith), le-leb n most w)
        (more_end least most n (suc i) r end ∙ rw (le-leb least n h) (ap (λ (k : ℕ). parsed k n) (omega arith))))
    by_test false e =
        let s = spelled n in
        let lead : 1 ≤ digit_of s.first = s.leads (omega (arith, ltb-false n 10 e)) in
        let top : digit_of s.first ≤ most = omega (arith, value_mono (digit_of s.first) s.others, s.gives) in
        rw s.is
        (simp (lt-ltb _ _ s.digit, le-leb (min 1 least) (digit_of s.first) (omega arith), le-leb _ _ top)
        (more_writes least most (digit_of s.first) (suc i) s.others r lead s.digits (omega (arith, s.gives)) (omega (arith, s.gives)) end
        ∙ ap (λ (k : ℕ). parsed k (value (digit_of s.first) s.others)) (omega arith)
        ∙ ap (parsed (i + suc (length s.others))) s.gives))
