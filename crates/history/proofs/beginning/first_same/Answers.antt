-- `history::beginning::first_same` meets its contract. The invariant: the records so far are the same. Assumes nothing.
use Prim.Native.Nat.{ℕ, ◌+◌, ◌*◌}
use mathlib.Core.Path.{◌≡◌, refl, subst}
use mathlib.Core.Bool.{true}
use native.Mathlib.Omega.{arith}
use lib.ListN.{length-take, length-drop}
use Rattle.slices.specs.Limits.{record_size}
use Rattle.history.specs.Inner.{UpTo}
use Rattle.history.proofs.Laws.Begins.{part_up_to, up_to_more, up_to_differs}
use Rattle.history.proofs.beginning.first_same.Goals as goal
use Rattle.history.proofs.beginning.first_same.Goals.{After-same}

pub loop-k-init : goal.loop-k-init
loop-k-init c = (refl, omega arith)

pub same-requires : goal.same-requires
same-requires c = simp (length-take, length-drop) (omega arith)

-- the record that was compared
compared : (c : After-same)
    → let a = c.args in
    UpTo a.older.now a.newer.now (c.loop-k.k * record_size) (c.loop-k.k * record_size + record_size) c.same.result
compared c =
    let i = c.loop-k.k * record_size in
    part_up_to c.args.older.now _ i (i + record_size) (omega arith) (omega (arith, c.requires.record_size_in_bounds)) c.requires.older_in_bounds _ c.same.ensures

pub loop-k-preserved : goal.loop-k-preserved
loop-k-preserved c =
    let a = c.args in
    let i = c.loop-k.k * record_size in
    let e : i + record_size ≡ (c.loop-k.k + 1) * record_size = omega arith in
    let b = up_to_more _ _ 0 i (i + record_size) _ c.loop-k.invariant.0 (compared (goal.at.loop-k-preserved c).After-same) c.if-not-same.false in
    (subst (λ (j : ℕ). UpTo a.older.now a.newer.now 0 j true) e b, omega arith)

pub returns-then-not-same : goal.returns-then-not-same
returns-then-not-same c =
    let i = c.loop-k.k * record_size in
    up_to_differs _ _ 0 i (i + record_size) _ c.loop-k.invariant.0 (compared (goal.at.returns-then-not-same c).After-same) c.if-not-same.true

pub returns : goal.returns
returns c =
    let e : c.loop-k.k ≡ c.args.m = omega (arith, c.loop-k.invariant.1) in
    subst (λ (k : ℕ). UpTo c.args.older.now c.args.newer.now 0 (k * record_size) true) e c.loop-k.invariant.0
