-- `stepping::chunks::begins` meets its contract. The invariant: i lists are gone by, and their bytes end at `at`. Assumes nothing.
use Rattle.std.proofs.Common.{rules}
use Prim.Native.Nat.{◌+◌, ◌≤◌}
use native.Mathlib.Omega.{arith}
use native.Mathlib.Numerals.{add-one}
use mathlib.Core.Path.{◌≡◌, refl}
use lib.ListN.{length, get_or}
use Rattle.joined.proofs.Laws.Lists.{gone_start, gone_within, gone_next}
use Rattle.stepping.proofs.Laws.Lists.{gone_behind}
use Rattle.stepping.proofs.chunks.begins.Goals as goal
use Rattle.stepping.proofs.chunks.begins.Goals.{In-loop-i}

pub loop-i-init : goal.loop-i-init
loop-i-init c = (gone_start _ _ c.requires.0, omega arith)

-- the next list lies inside the bytes
inside : (c : In-loop-i) → let a = c.args in c.loop-i.at + get_or a.lengths.now c.loop-i.i 0 ≤ length a.lists.now
inside c = gone_within _ _ _ _ c.loop-i.invariant.0 (omega (arith, c.loop-i-test.true, c.requires.1))

pub overflow_add-at : goal.overflow_add-at
overflow_add-at c =
    let l = inside (goal.at.overflow_add-at c).In-loop-i in
    omega arith

pub loop-i-preserved : goal.loop-i-preserved
loop-i-preserved c =
    let i = c.loop-i.invariant in
    (rw add-one (gone_next _ _ _ _ i.0 (omega (arith, c.loop-i-test.true, c.requires.1)) _ refl), search rules)

pub returns : goal.returns
returns c =
    let p = c.requires in
    let i = c.loop-i.invariant in
    let e : c.loop-i.i ≡ c.args.k = omega (arith, i.1, c.loop-i-test.false) in
    gone_behind _ _ _ _ p.0 (rw e at i.0) p.1
