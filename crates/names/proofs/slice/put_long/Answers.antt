-- `names::slice::put_long` meets its contract: the millions at three places, the other digits behind them, and the slashes between. Assumes nothing.
use native.Mathlib.Omega.{arith}
use Prim.Native.Nat.{◌+◌, ◌-◌, ◌*◌, ◌/◌, ◌≤◌}
use mathlib.Core.Path.{◌≡◌, refl, ◌∙◌}
use lib.ListN.{length, length-set}
use Rattle.names.proofs.Laws.Slice.{top_width, path_length, puts_long}
use Rattle.names.proofs.slice.put_long.Goals as goal
use Rattle.names.proofs.slice.put_long.Goals.{After-slice_known-1, After-slice_known-3-1}

-- where all ends
room : (c : After-slice_known-1) → let w = c.args.width in c.args.at + (w - 6 + 1 + (w - 3) + 1 + w) ≤ length c.args.out.now
room c = omega (arith, c.requires.2, path_length c.args.id c.args.width c.requires.0 c.requires.1)

pub overflow_add-x : goal.overflow_add-x
overflow_add-x c = omega (arith, room c)

pub overflow_add-y : goal.overflow_add-y
overflow_add-y c = omega (arith, room c)

pub overflow_add-y-2 : goal.overflow_add-y-2
overflow_add-y-2 c = omega (arith, room c)

pub overflow_add-x-2 : goal.overflow_add-x-2
overflow_add-x-2 c = omega (arith, room (goal.at.overflow_add-x-2 c).After-slice_known-1)

pub overflow_add-y-3 : goal.overflow_add-y-3
overflow_add-y-3 c = omega (arith, room (goal.at.overflow_add-y-3 c).After-slice_known-1)

pub put_thrice-requires : goal.put_thrice-requires
put_thrice-requires c =
    let r = room (goal.at.put_thrice-requires c).After-slice_known-1 in
    (top_width c.args.id c.args.width c.requires.0 c.requires.1, omega arith, omega arith, omega arith)

pub overflow_add-y-4 : goal.overflow_add-y-4
overflow_add-y-4 c = omega (arith, room (goal.at.overflow_add-y-4 c).After-slice_known-1)

pub put_tails-requires : goal.put_tails-requires
put_tails-requires c =
    let r = room (goal.at.put_tails-requires c).After-slice_known-1 in
    (omega arith, omega (arith, c.requires.0), omega (arith, c.requires.0, r, c.put_thrice.auto.out))

-- what the two calls leave is as long as before
kept : (c : After-slice_known-3-1) → length c.put_tails.new.out ≡ length c.args.out.now
kept c = c.put_tails.auto.out ∙ c.put_thrice.auto.out

pub bounds-out-x : goal.bounds-out-x
bounds-out-x c = omega (arith, kept c, room (goal.at.bounds-out-x c).After-slice_known-1)

pub bounds-out-y : goal.bounds-out-y
bounds-out-y c = simp length-set (omega (arith, kept c, room (goal.at.bounds-out-y c).After-slice_known-1))

pub overflow_add-result : goal.overflow_add-result
overflow_add-result c = omega (arith, room (goal.at.overflow_add-result c).After-slice_known-1)

pub overflow_add-result-2 : goal.overflow_add-result-2
overflow_add-result-2 c = omega (arith, room (goal.at.overflow_add-result-2 c).After-slice_known-1)

pub shape_of-out : goal.shape_of-out
shape_of-out c = simp length-set (kept c)

pub returns : goal.returns
returns c =
    let a = c.args in
    puts_long a.id a.width c.requires.0 c.requires.1 a.out.now a.at _ _ (a.id - a.id / 1000000 * 1000000) c.requires.2 refl refl refl c.put_thrice.ensures c.put_tails.ensures
