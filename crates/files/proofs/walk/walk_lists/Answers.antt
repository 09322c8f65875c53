-- `files::walk::walk_lists` meets its contract. The invariant: the lists before k are planned, and the room is for as many records.
-- Assumes nothing.
use Rattle.std.proofs.Common.{rules}
use Prim.Native.Nat.{◌+◌, ◌≤◌}
use native.Mathlib.Omega.{arith}
use mathlib.Core.Path.{refl}
use lib.ListN.{length, get_or}
use Rattle.joined.specs.Lists.{parts}
use Rattle.joined.proofs.Laws.Lists.{gone_within}
use Rattle.plans.proofs.Laws.Shifts.{shifts_some}
use Rattle.files.proofs.Laws.Walk.{walked_start, walked_holds, walked_room, walked_more, walked_end, walked_low}
use Rattle.files.proofs.Laws.Rooms.{fits_accepted}
use Rattle.files.proofs.walk.walk_lists.Goals as goal
use Rattle.files.proofs.walk.walk_lists.Goals.{In-loop-k}

pub loop-k-init : goal.loop-k-init
loop-k-init c =
    (walked_start _ _ _ _ _ _ _ _ _ c.requires.lengths_value.0 c.requires.lengths_value.1 c.requires.lists_in_bounds, refl)

-- the next list lies inside the bytes
inside : (c : In-loop-k)
    → let a = c.args in
    c.loop-k.at + get_or a.lengths.now c.loop-k.k 0 ≤ length a.lists.now
inside c = gone_within _ _ _ _ c.loop-k.invariant.0.gone c.loop-k-test.true

pub overflow_add-stop : goal.overflow_add-stop
overflow_add-stop c = let i = inside (goal.at.overflow_add-stop c).In-loop-k in omega arith

pub slice_bounds-walk_list-end : goal.slice_bounds-walk_list-end
slice_bounds-walk_list-end c = inside (goal.at.slice_bounds-walk_list-end c).In-loop-k

pub walk_list-to-requires : goal.walk_list-to-requires
walk_list-to-requires c =
    let i = c.loop-k.invariant in
    let h = c.loop-k-test.true in
    let a = c.args in
    let accepted = fits_accepted a.room.now.records (parts a.lengths.now a.lists.now) c.requires.lengths_value.1 in
    let r = walked_holds _ _ _ _ _ _ _ _ _ _ _ _ _ i.0 h _ refl in
    record { resolvable = (r.0, omega (arith, r.1, i.1)); k_lt_max_lists = (omega (arith, h, c.requires.lengths_len_bound.0), omega (arith, h, c.requires.lengths_len_bound.1), walked_low _ _ _ _ _ _ c.requires.lengths_value.0 accepted (shifts_some _ _ c.args.block.shifts) _ _ _ _ _ _ _ i.0 c.requires.lengths_len_bound.0 (omega (arith, c.ranges.end))); list_in_bounds = walked_room _ _ _ _ _ _ _ _ _ _ _ _ _ i.0 h _ refl }

pub loop-k-preserved : goal.loop-k-preserved
loop-k-preserved c =
    let i = c.loop-k.invariant in
    (walked_more _ _ _ _ _ _ _ _ _ _ _ _ _ i.0 c.loop-k-test.true _ refl _ _ c.walk_list-to.ensures.value c.walk_list-to.ensures.out_after, search rules)

pub shape_of-out : goal.shape_of-out
shape_of-out c = c.loop-k.invariant.0.puts.same

pub returns : goal.returns
returns c =
    let both = walked_end _ _ _ _ _ _ _ _ _ _ _ _ _ c.loop-k.invariant.0 c.loop-k-test.false in
    record { value = both.0; out_after = both.1 }
