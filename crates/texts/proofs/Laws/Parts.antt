-- Reading is the inverse of writing, for every form. Assumes nothing.
use mathlib.Core.Path.{◌≡◌, refl, sym, ap, ◌∙◌}
use mathlib.Core.Bool.{Bool, true, false, cond, ◌&&◌, and-eq-true_iff, false≢true}
use mathlib.Core.List.{List, [], ◌∷◌, ◌++◌}
use Prim.Native.Nat.{ℕ, suc, ◌+◌, ◌≤◌}
use native.Mathlib.Omega.{arith}
use native.Mathlib.Nat.{add-zero}
use borrow.Author.Tests.{leb-true, le-leb, eqb-true, eq-eqb}
use lib.Dec.{leb, eqb}
use lib.ListN.{length, drop}
use lib.Seq.{drop-drop, drop-append_seam}
use Rattle.codec.specs.Decimal.{decimal, digit_of}
use Rattle.codec.specs.Scan.{digit_at, parsed, decimal_at}
use Rattle.codec.specs.declared.scan.Parsed.{Parsed}
use Rattle.std.specs.Prelude.{Result, Ok, Err}
use Rattle.codec.proofs.Laws.Scan.{drop_tail, decimal_reads, decimal_writes}
use Rattle.texts.specs.Parts.{Part, word, number, write, allows, word_at, end_at, Scan, found, stop, scan, onward, with}

-- a word
ok_err : {A : Type 0} {i j : ℕ} → ◌≡◌ {A = Result ℕ ℕ} (Err i) (Ok j) → A
ok_err e = let z : ◌≡◌ {A = ℕ} 0 1 = cc in absurd (omega arith)

pub word_reads : (w : List ℕ) (i : ℕ) (text : List ℕ) (j : ℕ) → word_at w i (drop i text) ≡ Ok j → drop i text ≡ w ++ drop j text
unfolding word_at
word_reads w i text j r = go w i (drop i text) refl r
  where
    by_test : (a : ℕ) (w : List ℕ) (i b : ℕ) (t : List ℕ) → (word_at w (suc i) t ≡ Ok j → t ≡ w ++ drop j text) → (s : Bool) → eqb b a ≡ s
        → cond s (word_at w (suc i) t) (Err i) ≡ Ok j → b ∷ t ≡ a ∷ (w ++ drop j text)
    by_test a w i b t ih true e r = rw (eqb-true b a e, ← ih r)
    by_test a w i b t ih false e r = ok_err r

    go : (w : List ℕ) (i : ℕ) (t : List ℕ) → drop i text ≡ t → word_at w i t ≡ Ok j → t ≡ w ++ drop j text
    go [] i t e r = let p : i ≡ j = cc in sym e ∙ rw p
    go (a ∷ w) i [] e r = ok_err r
    go (a ∷ w) i (b ∷ t) e r = by_test a w i b t (go w (suc i) t (drop_tail i text b t e)) (eqb b a) refl r

pub word_writes : (w : List ℕ) (i : ℕ) (r : List ℕ) → word_at w i (w ++ r) ≡ Ok (i + length w)
unfolding word_at
word_writes [] i r = ap Ok (sym (add-zero i))
word_writes (a ∷ w) i r = simp (eq-eqb a a refl) (word_writes w (suc i) r ∙ ap Ok (omega arith))

-- a form in which each number is followed by the text's end or by a word that begins with no digit
unfoldable pub ends : List Part → Bool
ends [] = true
ends (word [] ∷ form) = false
ends (word (a ∷ w) ∷ form) = leb 10 (digit_of a)
ends (number least most ∷ form) = false

unfoldable pub apart : List Part → Bool
apart [] = true
apart (word w ∷ form) = apart form
apart (number least most ∷ form) = ends form && apart form

-- a text that is read is the text of the numbers found, and the form allows them
pub record Reads (form : List Part) (before text ns : List ℕ) : Type 0 where
  pub same : text ≡ write form ns
  pub allowed : allows form before ns ≡ true

pub stop_found : {A : Type 0} {i : ℕ} {ns : List ℕ} → stop i ≡ found ns → A
stop_found e = let z : ◌≡◌ {A = ℕ} 0 1 = cc in absurd (omega arith)

pub scan_reads : (form : List Part) (text before : List ℕ) (i : ℕ) (ns : List ℕ) → scan form text before i ≡ found ns → Reads form before (drop i text) ns
unfolding scan write allows end_at
scan_reads [] text before i ns r = go (drop i text) ns r
  where
    go : (t ns : List ℕ) → onward (end_at i t) (λ j. found []) ≡ found ns → Reads [] before t ns
    go [] [] r = record { same = refl; allowed = refl }
    go [] (n ∷ ns) r = let z : ◌≡◌ {A = ℕ} 0 1 = cc in absurd (omega arith)
    go (b ∷ t) ns r = stop_found r
scan_reads (word w ∷ form) text before i ns r = go (scan_reads form text before) (word_at w i (drop i text)) refl r
  where
    go : ((j : ℕ) (ns : List ℕ) → scan form text before j ≡ found ns → Reads form before (drop j text) ns)
        → (s : Result ℕ ℕ) → word_at w i (drop i text) ≡ s → onward s (λ j. scan form text before j) ≡ found ns → Reads (word w ∷ form) before (drop i text) ns
    go ih (Ok j) e r =
        let m = ih j ns r in
        record { same = word_reads w i text j e ∙ ap (λ (l : List ℕ). w ++ l) m.same; allowed = m.allowed }
    go ih (Err j) e r = stop_found r
scan_reads (number least most ∷ form) text before i ns r = go (λ v. scan_reads form text (v ∷ before)) (decimal_at (least before) (most before) i (drop i text)) refl r
  where
    then_scan : (j v : ℕ) → decimal_at (least before) (most before) i (drop i text) ≡ parsed j v → ((ns : List ℕ) → scan form text (v ∷ before) j ≡ found ns → Reads form (v ∷ before) (drop j text) ns)
        → (f : Scan) → scan form text (v ∷ before) j ≡ f → with v f ≡ found ns → Reads (number least most ∷ form) before (drop i text) ns
    then_scan j v e ih (found ms) f r =
        let m = ih ms f in
        let d = decimal_reads (least before) (most before) i text j v e in
        let p : v ∷ ms ≡ ns = cc in
        rw (← p)
        (record {
          same = d.same ∙ ap (λ (l : List ℕ). decimal v ++ l) m.same;
          allowed = simp (le-leb _ _ d.above, le-leb _ _ d.within, m.allowed);
        })
    then_scan j v e ih (stop p) f r = stop_found r

    go : ((v j : ℕ) (ns : List ℕ) → scan form text (v ∷ before) j ≡ found ns → Reads form (v ∷ before) (drop j text) ns)
        → (s : Result Parsed ℕ) → decimal_at (least before) (most before) i (drop i text) ≡ s → onward s (λ p. with p.value (scan form text (p.value ∷ before) p.at)) ≡ found ns → Reads (number least most ∷ form) before (drop i text) ns
    go ih (Ok p) e r = then_scan p.at p.value e (ih p.value p.at) (scan form text (p.value ∷ before) p.at) refl r
    go ih (Err j) e r = stop_found r

pub ends_number : (form : List Part) (ns : List ℕ) → ends form ≡ true → 10 ≤ digit_at (write form ns)
unfolding ends write digit_at
ends_number [] ns e = omega arith
ends_number (word [] ∷ form) ns e = absurd (false≢true e)
ends_number (word (a ∷ w) ∷ form) ns e = leb-true _ _ e
ends_number (number least most ∷ form) ns e = absurd (false≢true e)

-- what follows a part of the text
drop_part : (i : ℕ) (text p r : List ℕ) → drop i text ≡ p ++ r → drop (i + length p) text ≡ r
drop_part i text p r e = sym (drop-drop (length p) i text) ∙ rw e (drop-append_seam p r)

pub scan_writes : (form : List Part) → apart form ≡ true → (text before : List ℕ) (i : ℕ) (ns : List ℕ) → drop i text ≡ write form ns → allows form before ns ≡ true → scan form text before i ≡ found ns
unfolding scan write allows end_at apart
scan_writes [] a text before i [] e w = rw e
scan_writes [] a text before i (n ∷ ns) e w = absurd (false≢true w)
scan_writes (word p ∷ form) a text before i ns e w =
    rw (e, word_writes p i (write form ns)) (scan_writes form a text before (i + length p) ns (drop_part i text p (write form ns) e) w)
scan_writes (number least most ∷ form) a text before i [] e w = absurd (false≢true w)
scan_writes (number least most ∷ form) a text before i (n ∷ ns) e w =
    let a1 = (and-eq-true_iff (ends form) (apart form)).0 a in
    let w0 = (and-eq-true_iff (leb (least before) n && leb n (most before)) (allows form (n ∷ before) ns)).0 w in
    let w1 = (and-eq-true_iff (leb (least before) n) (leb n (most before))).0 w0.0 in
    rw (
      e,
      decimal_writes (least before) (most before) i n (write form ns) (leb-true _ _ w1.0) (leb-true _ _ w1.1) (ends_number form ns a1.0),
      scan_writes form a1.1 text (n ∷ before) (i + length (decimal n)) ns (drop_part i text (decimal n) (write form ns) e) w0.1,
    )

-- distinct allowed numbers have distinct texts
pub distinct : (form : List Part) → apart form ≡ true → (ns ms : List ℕ) → allows form [] ns ≡ true → allows form [] ms ≡ true → write form ns ≡ write form ms → ns ≡ ms
distinct form a ns ms w v e =
    let p = scan_writes form a (write form ns) [] 0 ns refl w in
    let q = scan_writes form a (write form ns) [] 0 ms e v in
    cc

-- what `allows` says, as facts that `omega` reads
unfoldable pub Allowed : List Part → List ℕ → List ℕ → Type 0
Allowed [] before [] = Unit {0}
Allowed [] before (n ∷ ns) = ⊥
Allowed (word w ∷ form) before ns = Allowed form before ns
Allowed (number least most ∷ form) before [] = ⊥
Allowed (number least most ∷ form) before (n ∷ ns) = (least before ≤ n) × (n ≤ most before) × Allowed form (n ∷ before) ns

pub allowed : (form : List Part) (before ns : List ℕ) → allows form before ns ≡ true → Allowed form before ns
unfolding allows Allowed
allowed [] before [] w = tt
allowed [] before (n ∷ ns) w = absurd (false≢true w)
allowed (word p ∷ form) before ns w = allowed form before ns w
allowed (number least most ∷ form) before [] w = absurd (false≢true w)
allowed (number least most ∷ form) before (n ∷ ns) w =
    let w0 = (and-eq-true_iff (leb (least before) n && leb n (most before)) (allows form (n ∷ before) ns)).0 w in
    let w1 = (and-eq-true_iff (leb (least before) n) (leb n (most before))).0 w0.0 in
    (leb-true _ _ w1.0, leb-true _ _ w1.1, allowed form (n ∷ before) ns w0.1)

pub allowing : (form : List Part) (before ns : List ℕ) → Allowed form before ns → allows form before ns ≡ true
unfolding allows Allowed
allowing [] before [] w = refl
allowing [] before (n ∷ ns) w = absurd w
allowing (word p ∷ form) before ns w = allowing form before ns w
allowing (number least most ∷ form) before [] w = absurd w
allowing (number least most ∷ form) before (n ∷ ns) w = simp (le-leb _ _ w.0, le-leb _ _ w.1, allowing form (n ∷ before) ns w.2)
