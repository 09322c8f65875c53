-- From the maximal run of a list's locations to the step of a read: inside its chunk it is the step's, and it ends with the chunk. Assumes nothing.
use Prim.Native.Nat.{ℕ, suc, ◌+◌, ◌-◌, ◌≤◌, ◌<◌}
use native.Mathlib.Omega.{arith}
use native.Mathlib.Decide.{ℕ_discrete}
use mathlib.Core.Path.{◌≡◌, refl, sym, ap, ◌∙◌}
use mathlib.Core.Bool.{false}
use mathlib.Core.List.{List, ◌∷◌}
use borrow.Author.Tests.{eq-eqb}
use Rattle.runs.specs.Inner.{Leads}
use Rattle.runs.specs.Runs.{Run, runs, IsRun, Stops, Valid}
use Rattle.runs.proofs.Laws.Runs.{runs_valid}
use Rattle.plans.specs.Location.{Site, location_at, next_location, next_site}
use Rattle.plans.specs.Piece.{piece_of}
use Rattle.stepping.specs.Step.{given, piece_in, first_step, next_step}
use Rattle.stepping.proofs.Laws.Steps.{step_divides}
use Rattle.stepping.specs.Inner.{PieceFrom}
use Rattle.slices.specs.declared.Record.{Record}
use Rattle.plans.specs.declared.Location.{Location}
use Rattle.plans.specs.declared.Piece.{Piece}

-- the first of a division, its end, and the others
leads_divide : (g : ℕ → Location) (p end e : ℕ) → Leads next_location g p end (g p) e
    → Valid next_location g p end (record { start = p; len = e - p; first = g p } ∷ runs next_location g e (end - e))
leads_divide g p end e h =
    let t : p + (end - p) ≡ end = omega (arith, h.some, h.inside) in
    rw h.splits at (runs_valid next_location g p (end - p) end t)

same_chunk : (index : ℕ) (a b : Location) → next_site (record { index = index; location = a }) (record { index = index; location = b }) ≡ next_location a b
unfolding next_site
same_chunk index a b = rw (eq-eqb index index refl)

-- a read whose places from `at` on, as many as there are positions from p up to `end`, lie in one chunk, and part at its end
module _ (f : ℕ → Site) (n at : ℕ) (g : ℕ → Location) (index p end : ℕ) (inside : at + (end - p) ≤ n)
    (same : (j : ℕ) → p ≤ j → j < end → f (at + (j - p)) ≡ record { index = index; location = g j }) (edge : Stops next_site f (at + (end - p)) n) where
  -- two neighbours
  neighbours : (q j : ℕ) → q ≡ at + (j - p) → p ≤ j → suc j < end → next_site (f q) (f (suc q)) ≡ next_location (g j) (g (suc j))
  neighbours q j h a b =
      let s : suc q ≡ at + (suc j - p) = omega arith in
      rw (ap f h ∙ same j a (omega arith), ap f s ∙ same (suc j) (omega arith) b) (same_chunk index (g j) (g (suc j)))

  module _ (e : ℕ) (h : Leads next_location g p end (g p) e) where
    abbrev first : Run Site
    first = record { start = at; len = e - p; first = record { index = index; location = g p } }

    is_run : IsRun next_site f at first
    is_run =
        let v = (leads_divide g p end e h).0 in
        let z : at + (p - p) ≡ at = omega arith in
        record {
          starts = refl;
          some = omega (arith, h.some);
          first_is = sym (ap f (sym z) ∙ same p (omega arith) (omega (arith, h.some, h.inside)));
          inside = λ q a b. neighbours q (p + (q - at)) (omega arith) (omega arith) (omega (arith, h.inside)) ∙ v.inside (p + (q - at)) (omega arith) (omega arith);
        }

    stops : Stops next_site f (at + (e - p)) n
    stops q a b = go (ℕ_discrete e end)
      where
        go : Dec (e ≡ end) → next_site (f q) (f (suc q)) ≡ false
        go (yes z) = edge q (a ∙ ap (λ (x : ℕ). at + (x - p)) z) (omega arith)
        go (no z) =
            let v = (leads_divide g p end e h).1 in
            let l : e < end = omega (arith, h.inside) in
            let i = h.some in
            neighbours q (e - 1) (omega arith) (omega arith) (omega arith) ∙ v (e - 1) (omega arith) (omega arith)

    step_leads : next_step f n at ≡ given (piece_of index at (e - p) (g p)) (at + (e - p))
    unfolding first_step piece_in
    step_leads =
        let l = h.inside in
        let z : at + (e - p) + (n - (at + (e - p))) ≡ n = omega arith in
        step_divides f n at (first ∷ runs next_site f (at + (e - p)) (n - (at + (e - p)))) (is_run, stops, runs_valid next_site f (at + (e - p)) (n - (at + (e - p))) n z)

-- the same of the piece
pub step_piece : (f : ℕ → Site) (n at B : ℕ) (rs : List Record) (index p end : ℕ) → at + (end - p) ≤ n
    → ((j : ℕ) → p ≤ j → j < end → f (at + (j - p)) ≡ record { index = index; location = location_at B rs j }) → Stops next_site f (at + (end - p)) n
    → (piece : Piece) → PieceFrom B rs index at p end piece → next_step f n at ≡ given piece (at + piece.len)
step_piece f n at B rs index p end inside same edge piece h =
    let e : p + piece.len - p ≡ piece.len = omega arith in
    rw e at (step_leads f n at (location_at B rs) index p end inside same edge (p + piece.len) h.leads)
    ∙ ap (λ (x : Piece). given x (at + piece.len)) (sym h.is)
