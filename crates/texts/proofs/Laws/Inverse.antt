-- What follows where reading is the inverse of writing. Assumes nothing.
use Prim.Native.Nat.{ℕ}
use native.Mathlib.Omega.{arith}
use mathlib.Core.Path.{◌≡◌, refl, sym, ap, ◌∙◌}
use mathlib.Core.Bool.{Bool, true}
use mathlib.Core.Logic.{◌↔◌}
use mathlib.Core.List.{List}
use Rattle.outcomes.specs.Numbers.{not_of_form}
use Rattle.outcomes.specs.Outcome.{Outcome, refused, done, refusal}
use Rattle.texts.specs.Inverse.{Inverse}

module _ {A : Type 0} {Kind : List ℕ → Type 0} {allowed : A → Bool} {text : A → List ℕ} {read : List ℕ → Outcome A} (inverse : Inverse Kind allowed text read) where
  -- two allowed values never share a text
  pub distinct : (v w : A) → allowed v ≡ true → allowed w ≡ true → text v ≡ text w → v ≡ w
  distinct v w a b e =
      let p : done v ≡ done w = sym (inverse.back v a) ∙ ap read e ∙ inverse.back w b in
      cc

  -- 13 exactly where no allowed value has the text
  pub refused_exactly : (t : List ℕ) → Kind t → (read t ≡ refused (refusal not_of_form 0)) ↔ ((v : A) → allowed v ≡ true → t ≡ text v → ⊥)
  refused_exactly t h = (never, λ none. go none (read t) refl)
    where
      never : read t ≡ refused (refusal not_of_form 0) → (v : A) → allowed v ≡ true → t ≡ text v → ⊥
      never r v a e =
          let p : refused (refusal not_of_form 0) ≡ done v = sym r ∙ ap read e ∙ inverse.back v a in
          let z : ◌≡◌ {A = ℕ} 0 1 = cc in
          omega arith

      go : ((v : A) → allowed v ≡ true → t ≡ text v → ⊥) → (o : Outcome A) → read t ≡ o → read t ≡ refused (refusal not_of_form 0)
      go none (refused r) e = e ∙ ap refused (inverse.only t r e)
      go none (done v) e = let f = inverse.forth t h v e in absurd (none v f.1 f.0)
