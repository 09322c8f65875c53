-- `files::rooms::answer` meets its contract: each answer is that of its case. Assumes nothing.
use Prim.Native.Nat.{ℕ, ◌≤◌}
use native.Mathlib.Omega.{arith}
use mathlib.Core.Path.{refl}
use mathlib.Core.Bool.{false≢true}
use mathlib.Core.List.{List}
use lib.ListN.{length}
use Rattle.outcomes.proofs.Laws.Delivery.{delivered_room, counted_short, counted_done}
use Rattle.joined.specs.Lists.{parts}
use Rattle.plans.proofs.Laws.Shifts.{shifts_some}
use Rattle.files.specs.Inner.{bytes_of}
use Rattle.std.specs.Prelude.{Ok, Err}
use Rattle.files.proofs.Laws.Walk.{bytes_room}
use Rattle.files.proofs.rooms.answer.Goals as goal
use Rattle.files.proofs.rooms.answer.Goals.{Start, Then-roomy}

-- the bytes of the plan
abbrev bytes : Start → List ℕ
bytes c = let a = c.args in bytes_of a.first a.block.bytes a.from a.end 0 (parts a.lengths.now a.lists.now)

-- all pieces that can come have room
fits : (c : Then-roomy)
    → let a = c.args in length (bytes_of a.first a.block.bytes a.from a.end 0 (parts a.lengths.now a.lists.now)) ≤ length a.out.now
fits c =
    let s = c.args.block.shifts in
    let h = rw (← s.power) at (c.roomy.ensures c.if-roomy.true) in
    bytes_room _ _ _ _ _ _ c.requires.lengths_value.0 c.requires.lengths_value.1 (shifts_some _ _ s) _ h

pub in_room-requires : goal.in_room-requires
in_room-requires c =
    record { lengths_value = c.requires.lengths_value; lengths_len_bound = (c.requires.lengths_len_bound.0, c.requires.lengths_len_bound.1); lists_in_bounds = (λ t. fits (goal.at.in_room-requires c).Then-roomy) }

pub returns-then-roomy : goal.returns-then-roomy
returns-then-roomy c =
    delivered_room _ (bytes (goal.at.returns-then-roomy c).Start) c.args.out.now Err Ok (fits (goal.at.returns-then-roomy c).Then-roomy) _ _ c.in_room.ensures.value c.in_room.ensures.out_after

pub in_room-need-requires : goal.in_room-need-requires
in_room-need-requires c =
    record { lengths_value = c.requires.lengths_value; lengths_len_bound = (c.requires.lengths_len_bound.0, c.requires.lengths_len_bound.1); lists_in_bounds = (λ t. absurd (false≢true t)) }

pub returns-then-out-need : goal.returns-then-out-need
returns-then-out-need c =
    rw c.from.ensures (counted_short _ (bytes (goal.at.returns-then-out-need c).Start) c.args.out.now Err Ok _ c.in_room-need.ensures.out_after _ c.in_room-need.ensures.value c.if-out-need.true _ refl)

pub in_room-requires-2 : goal.in_room-requires-2
in_room-requires-2 c =
    record { lengths_value = c.requires.lengths_value; lengths_len_bound = (c.requires.lengths_len_bound.0, c.requires.lengths_len_bound.1); lists_in_bounds = (λ t. omega (arith, c.if-out-need.false, c.in_room-need.ensures.value)) }

pub returns : goal.returns
returns c =
    counted_done _ (bytes (goal.at.returns c).Start) c.args.out.now Err Ok _ c.in_room-need.ensures.out_after _ c.in_room-need.ensures.value c.if-out-need.false _ _ c.in_room-2.ensures.value c.in_room-2.ensures.out_after
