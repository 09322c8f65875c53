-- A read plan's pieces hold each place of the read. Assumes nothing.
use Prim.Native.Nat.{ℕ, ◌+◌, ◌<◌, ◌≤◌, zero-le}
use native.Mathlib.Omega.{arith}
use native.Mathlib.Decide.{dec_lt}
use mathlib.Core.Logic.{◌⊎◌, inl, inr}
use mathlib.Core.List.{List, [], ◌∷◌}
use Rattle.runs.specs.Runs.{Run, Valid}
use Rattle.plans.specs.Location.{next_location}
use Rattle.plans.specs.Plan.{cut_to, location_from, pieces, read_plan}
use Rattle.plans.proofs.Laws.Divide.{pieces_divide}
use Rattle.copying.specs.Copy.{Holds, Held}
use Rattle.slices.specs.declared.Record.{Record}
use Rattle.plans.specs.declared.Location.{Location}

runs_held : (f : ℕ → Location) (at end : ℕ) (rs : List (Run Location)) → Valid next_location f at end rs → (p : ℕ) → at ≤ p → p < end → Held rs p
runs_held f at end [] v p h k = absurd (omega arith)
runs_held f at end (r ∷ rs) v p h k = go (dec_lt p (at + r.len)) (runs_held f (at + r.len) end rs v.2 p)
  where
    go : Dec (p < at + r.len) → (at + r.len ≤ p → p < end → Held rs p) → Holds r p ⊎ Held rs p
    go (yes l) ih = let e = v.0.starts in inl (record { low = omega arith; high = omega arith })
    go (no l) ih = inr (ih (omega arith) k)

pub plan_held : (B : ℕ) (rs : List Record) (l start count i : ℕ) → i < cut_to l start count → Held (read_plan B rs l start count) i
unfolding read_plan
plan_held B rs l start count i h =
    let n = cut_to l start count in
    runs_held (location_from B rs start) 0 n (pieces B rs start n) (pieces_divide B rs start n) i zero-le h
