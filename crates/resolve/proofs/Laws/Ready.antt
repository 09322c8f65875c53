-- A resolved list holds that it is ready as a bare fact; that gives all of it. Assumes nothing.
use Prim.Native.Nat.{ℕ}
use native.Mathlib.Nat.{ℕ_set}
use native.Mathlib.Bridge.{le_prop}
use native.Mathlib.Decide.{ℕ_discrete}
use mathlib.Core.Logic.{inl, inr, ⊎_elim, ∥∥₁_elim, ∥∥₁_map}
use mathlib.Core.List.{List, [], ◌∷◌}
use Rattle.std.proofs.Props.{props}
use Rattle.codec.specs.All.{All}
use Rattle.slices.specs.Passes.{Passes}
use Rattle.slices.specs.Record.{records}
use Rattle.slices.specs.declared.Record.{Record}
use Rattle.resolve.specs.Resolved.{Resolved, Ready}

-- which of its two sizes a record of zeros has can be seen
passes_of : (r : Record) → ∥ Passes r ∥₁ → Passes r
passes_of r e =
    record {
      inside = ∥∥₁_elim e le_prop (λ p. p.inside);
      sized = ∥∥₁_elim e le_prop (λ p. p.sized);
      zeros = λ z. (
        ∥∥₁_elim e (ℕ_set _ _) (λ p. (p.zeros z).0),
        elim (ℕ_discrete r.size 0) [
          | yes s ↦ inl s
          | no s ↦ inr (∥∥₁_elim e (ℕ_set _ _) (λ p. ⊎_elim (λ t. absurd (s t)) (λ t. t) (p.zeros z).1))
        ],
      );
      within = λ n. ∥∥₁_elim e le_prop (λ p. p.within n);
    }

all_of : (rs : List Record) → ∥ All Passes rs ∥₁ → All Passes rs
all_of [] e = tt
all_of (r ∷ rs) e = (passes_of r (∥∥₁_map e (λ a. a.0)), all_of rs (∥∥₁_map e (λ a. a.1)))

resolved_prop : (bs marks tops : List ℕ) (m end : ℕ) → IsProp (Resolved bs marks tops m end)
resolved_prop bs marks tops m end = hlevel props

pub ready_of : {bs marks tops : List ℕ} {m : ℕ} → ∥ Ready bs marks tops m ∥₁ → Ready bs marks tops m
ready_of {bs} {marks} {tops} {m} e =
    record {
      pass = all_of (records bs) (∥∥₁_map e (λ r. r.pass));
      resolved = ∥∥₁_elim e (resolved_prop bs marks tops m _) (λ r. r.resolved);
      in_marks = ∥∥₁_elim e le_prop (λ r. r.in_marks);
      in_tops = ∥∥₁_elim e le_prop (λ r. r.in_tops);
    }
