-- Inner: what the steps of the code find. It serves the contracts of inner functions alone. Assumes nothing.
use Rattle.std.specs.Prelude.{ℕ, ◌+◌, ◌-◌, ◌≤◌, min, max, ◌≡◌, cond, List, [], ◌∷◌, ltb, eqb}
use Rattle.slices.specs.Limits.{chunk}
use Rattle.plans.specs.Plan.{pieces}
use Rattle.compaction.specs.Compaction.{plan_of, stand_in}
use Rattle.slices.specs.declared.Record.{Record}

-- the least pos of the records that cover something; 64 MiB where there is none
unfoldable pub lowest : List Record → ℕ
lowest [] = chunk
lowest (r ∷ rs) = cond (eqb r.len 0) (lowest rs) (min r.pos (lowest rs))

-- the greatest pos + len of the records that cover something; 0 where there is none
unfoldable pub highest : List Record → ℕ
highest [] = 0
highest (r ∷ rs) = cond (eqb r.len 0) (highest rs) (max (r.pos + r.len) (highest rs))

-- the record that stands for the positions from `from` up to `end` under a new id, if there are any
unfoldable pub stand_for : (from end id : ℕ) → List Record
stand_for from end id = cond (ltb from end) (record { pos = from; id = id; size = end - from; off = 0; len = end - from } ∷ []) []

-- the records cover nothing but from `from` up to `end`: their plan, and what stands in for them
pub record Ends (xs : List Record) (from end : ℕ) : Type 0 where
  pub order : from ≤ end
  pub inside : end ≤ chunk
  pub plan : (B : ℕ) → plan_of B xs ≡ pieces B xs from (end - from)
  pub new : (id : ℕ) → stand_in xs id ≡ stand_for from end id
