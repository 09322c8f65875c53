-- The segments of a view stand one after the other, from 0 up to its chunk length: each begins where the one before it ends. Assumes nothing.
use Prim.Native.Nat.{ℕ, zero, suc, ◌+◌, ◌<◌, ◌≤◌}
use native.Mathlib.Omega.{arith}
use native.Mathlib.Nat.{add-zero, add-suc, le_refl}
use mathlib.Core.Path.{◌≡◌, refl, ◌∙◌}
use mathlib.Core.List.{List, [], ◌∷◌, map}
use lib.ListN.{length, get_or, length-map}
use Rattle.slices.specs.Cover.{cover}
use Rattle.slices.specs.declared.Record.{Record}
use Rattle.slices.specs.declared.Source.{Source}
use Rattle.slices.specs.declared.Source.TheVariants.{Nothing, Zero, Byte}
use Rattle.runs.specs.Runs.{Run, Valid}
use Rattle.views.specs.View.{next, as_record, run_record, view_runs, view}
use Rattle.views.proofs.Laws.ViewSource.{view_divides}
use Rattle.seeking.specs.Seek.{no_segment}

-- the first n segments of a row divide the positions from 0 up to l: segment i goes from edge i to the next
pub record Divides (row : ℕ → Record) (n l : ℕ) : Type 0 where
  pub edge : ℕ → ℕ
  pub starts : edge 0 ≡ 0
  pub ends : edge n ≡ l
  pub from : (i : ℕ) → i < n → (row i).pos ≡ edge i
  pub to : (i : ℕ) → i < n → (row i).pos + (row i).len ≡ edge (suc i)

-- ---- their edges rise

module _ (row : ℕ → Record) (n l : ℕ) (d : Divides row n l) where
  pub edges_rise : (i k : ℕ) → i + k ≤ n → d.edge i ≤ d.edge (i + k)
  edges_rise i zero h = rw add-zero (le_refl (d.edge i))
  edges_rise i (suc k) h =
      rw add-suc (omega (arith, edges_rise i k (omega arith), d.from (i + k) (omega arith), d.to (i + k) (omega arith)))

-- ---- those of runs

-- where run i starts, and behind the last where all end
abbrev edge_of : ℕ → List (Run Source) → ℕ → ℕ
edge_of at [] i = at
edge_of at (r ∷ rs) zero = at
edge_of at (r ∷ rs) (suc i) = edge_of (at + r.len) rs i

-- a run's record has the run's positions, whatever its source
positions : (at n : ℕ) (a : Source) → ((as_record at n a).pos ≡ at) × ((as_record at n a).len ≡ n)
unfolding as_record
positions at n Nothing = (refl, refl)
positions at n Zero = (refl, refl)
positions at n (Byte i s o) = (refl, refl)

module _ (f : ℕ → Source) where
  edge_start : (at : ℕ) (rs : List (Run Source)) → edge_of at rs 0 ≡ at
  edge_start at [] = refl
  edge_start at (r ∷ rs) = refl

  edge_end : (at end : ℕ) (rs : List (Run Source)) → Valid next f at end rs → edge_of at rs (length rs) ≡ end
  edge_end at end [] v = v
  edge_end at end (r ∷ rs) v = edge_end (at + r.len) end rs v.2

  run_between : (at end : ℕ) (rs : List (Run Source)) → Valid next f at end rs → (i : ℕ) → i < length rs
      → let r = get_or (map run_record rs) i no_segment in (r.pos ≡ edge_of at rs i) × (r.pos + r.len ≡ edge_of at rs (suc i))
  unfolding run_record
  run_between at end [] v i h = absurd (omega arith)
  run_between at end (r ∷ rs) v zero h =
      let s = positions r.start r.len r.first in
      (s.0 ∙ v.0.starts, omega (arith, s, v.0.starts, edge_start (at + r.len) rs))
  run_between at end (r ∷ rs) v (suc i) h = run_between (at + r.len) end rs v.2 i (omega arith)

-- ---- a view's

pub view_edges : (rs : List Record) (l : ℕ) (row : ℕ → Record) → ((i : ℕ) → i < length (view rs l) → row i ≡ get_or (view rs l) i no_segment)
    → Divides row (length (view rs l)) l
unfolding view
view_edges rs l row same =
    let runs = view_runs rs l in
    let v = view_divides rs l in
    let n = length-map runs run_record in
    record {
      edge = edge_of 0 runs;
      starts = edge_start (cover rs) 0 runs;
      ends = rw n (edge_end (cover rs) 0 l runs v);
      from = λ i h. rw (same i h) (run_between (cover rs) 0 l runs v i (omega arith)).0;
      to = λ i h. rw (same i h) (run_between (cover rs) 0 l runs v i (omega arith)).1;
    }
