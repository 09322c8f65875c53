-- `joined::check_lists` meets its contract. Assumes nothing.
use Prim.Native.Nat.{◌+◌, ◌≤◌}
use mathlib.Core.Path.{refl, sym, ◌∙◌}
use native.Mathlib.Omega.{arith}
use lib.ListN.{length, get_or}
use Rattle.joined.proofs.Laws.Lists.{gone_within}
use Rattle.joined.proofs.Laws.Check.{ahead_start, ahead_next, ahead_refused, ahead_end}
use Rattle.joined.proofs.check_lists.Goals as goal
use Rattle.joined.proofs.check_lists.Goals.{In-loop-k}

pub loop-k-init : goal.loop-k-init
loop-k-init c = ahead_start _ _ _ c.requires.lengths_value

-- the list that is looked at lies inside the bytes
inside : (c : In-loop-k)
    → let a = c.args in
    c.loop-k.at + get_or a.lengths.now c.loop-k.k 0 ≤ length a.lists.now
inside c =
    let a = c.args in
    gone_within a.lengths.now a.lists.now _ _ c.loop-k.invariant.gone c.loop-k-test.true

pub overflow_add-end : goal.overflow_add-end
overflow_add-end c = let i = inside (goal.at.overflow_add-end c).In-loop-k in omega arith

pub slice_bounds-check_list-end : goal.slice_bounds-check_list-end
slice_bounds-check_list-end c = inside (goal.at.slice_bounds-check_list-end c).In-loop-k

pub returns-in-Err : goal.returns-in-Err
returns-in-Err c =
    rw c.of.ensures (ahead_refused _ _ _ _ _ c.loop-k.invariant c.loop-k-test.true _ refl _ (sym c.check_list.ensures ∙ c.in-Err.is))

pub loop-k-preserved : goal.loop-k-preserved
loop-k-preserved c =
    ahead_next _ _ _ _ _ c.loop-k.invariant c.loop-k-test.true _ refl _ (sym c.check_list.ensures ∙ c.in_default.is)

pub returns : goal.returns
returns c = ahead_end _ _ _ _ _ c.loop-k.invariant c.loop-k-test.false
