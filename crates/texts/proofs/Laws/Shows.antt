-- A form whose numbers show a value: reading by the form is the inverse of writing, from any place of a text on. Assumes nothing.
use Prim.Native.Nat.{ℕ}
use native.Mathlib.Omega.{arith}
use mathlib.Core.Path.{◌≡◌, refl, sym, ap, ◌∙◌}
use mathlib.Core.Bool.{Bool, true}
use mathlib.Core.List.{List, []}
use lib.ListN.{drop}
use Rattle.outcomes.specs.Outcome.{done}
use Rattle.texts.specs.Parts.{Part, write, allows, Scan, found, stop, scan}
use Rattle.texts.specs.Calls.{reading}
use Rattle.texts.specs.Inverse.{Inverse, Any}
use Rattle.texts.proofs.Laws.Parts.{apart, scan_reads, scan_writes}
use Rattle.texts.proofs.Laws.Calls.{reading_only}

-- the numbers of a value, and the value that numbers stand for
pub record Shows {A : Type 0} (form : List Part) (allowed : A → Bool) (shown : A → List ℕ) (stands : List ℕ → A) : Type 0 where
  pub parts : apart form ≡ true
  pub again : (v : A) → stands (shown v) ≡ v
  pub taken : (v : A) → allowed v ≡ true → allows form [] (shown v) ≡ true
  pub right : (ns : List ℕ) → allows form [] ns ≡ true → (shown (stands ns) ≡ ns) × (allowed (stands ns) ≡ true)

module _ {A : Type 0} {form : List Part} {allowed : A → Bool} {shown : A → List ℕ} {stands : List ℕ → A} (shows : Shows form allowed shown stands) where
  pub shows_back : (text : List ℕ) (i : ℕ) (v : A) → allowed v ≡ true → drop i text ≡ write form (shown v) → reading stands (scan form text [] i) ≡ done v
  unfolding reading
  shows_back text i v a e = rw (scan_writes form shows.parts text [] i (shown v) e (shows.taken v a)) (ap done (shows.again v))

  pub shows_forth : (text : List ℕ) (i : ℕ) (v : A) → reading stands (scan form text [] i) ≡ done v → (drop i text ≡ write form (shown v)) × (allowed v ≡ true)
  unfolding reading
  shows_forth text i v r = go (scan form text [] i) refl r
    where
      go : (s : Scan) → scan form text [] i ≡ s → reading stands s ≡ done v → (drop i text ≡ write form (shown v)) × (allowed v ≡ true)
      go (found ns) e r =
          let m = scan_reads form text [] i ns e in
          let w = shows.right ns m.allowed in
          let p : stands ns ≡ v = cc in
          (m.same ∙ ap (write form) (sym w.0 ∙ ap shown p), ap allowed (sym p) ∙ w.1)
      go (stop p) e r = let z : ◌≡◌ {A = ℕ} 0 1 = cc in absurd (omega arith)

  -- a whole text
  pub shows_inverse : (text : A → List ℕ) → ((v : A) → text v ≡ write form (shown v)) → Inverse Any allowed text (λ t. reading stands (scan form t [] 0))
  shows_inverse text same =
      record {
        back = λ v a. shows_back (text v) 0 v a (same v);
        forth = λ t h v r. let m = shows_forth t 0 v r in (m.0 ∙ sym (same v), m.1);
        only = λ t r e. reading_only stands (scan form t [] 0) r e;
      }
