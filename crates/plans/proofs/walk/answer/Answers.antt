-- `plans::walk::answer` meets its contract: each answer is that of its case. Assumes nothing.
use Prim.Native.Nat.{ℕ, ◌+◌, ◌-◌, ◌*◌, ◌%◌, ◌≤◌}
use native.Mathlib.Omega.{arith}
use native.Mathlib.Nat.{zero-add}
use mathlib.Core.Path.{◌≡◌, ap, ◌∙◌}
use mathlib.Core.Bool.{false≢true}
use mathlib.Core.List.{List}
use lib.ListN.{length}
use Rattle.codec.specs.Splice.{splice}
use Rattle.outcomes.proofs.Laws.Delivery.{delivered_room, counted_short, counted_done}
use Rattle.std.specs.Prelude.{Ok, Err}
use Rattle.runs.specs.Runs.{Run}
use Rattle.slices.specs.Limits.{chunk}
use Rattle.slices.specs.Record.{records}
use Rattle.resolve.proofs.Laws.Resolved.{resolved_few}
use Rattle.plans.specs.Inner.{front_bytes}
use Rattle.plans.specs.Piece.{chunk_bytes}
use Rattle.plans.specs.Plan.{pieces}
use Rattle.plans.specs.declared.Location.{Location}
use Rattle.plans.proofs.Laws.Few.{plan_room_lem}
use Rattle.plans.proofs.Laws.Pieces.{front_chunk}
use Rattle.plans.proofs.Laws.Shifts.{shifts_some}
use Rattle.resolve.proofs.Laws.Ready.{ready_of}
use Rattle.plans.proofs.walk.answer.Goals as goal
use Rattle.plans.proofs.walk.answer.Goals.{Start, Then-roomy}

-- the plan, and its bytes
abbrev planned : Start → List (Run Location)
planned c = let a = c.args in pieces a.block.bytes (records a.r.now.list.now) a.from (a.end - a.from)

abbrev bytes : Start → List ℕ
bytes c = chunk_bytes c.args.index 0 (planned c)

-- a walk counts these bytes, and writes them
counts : (c : Start) (n : ℕ) → n ≡ 0 + length (front_bytes (c.args.index * 4294967296) (planned c)) → n ≡ length (bytes c)
counts c n e = e ∙ (zero-add _ ∙ ap length (front_chunk c.args.index (planned c)))

writes : (c : Start) (o o' : List ℕ) → o' ≡ splice o 0 (front_bytes (c.args.index * 4294967296) (planned c)) → o' ≡ splice o 0 (bytes c)
writes c o o' e = e ∙ ap (splice o 0) (front_chunk c.args.index (planned c))

-- all pieces that can come have room
fits : (c : Then-roomy)
    → let a = c.args in length (chunk_bytes a.index 0 (pieces a.block.bytes (records a.r.now.list.now) a.from (a.end - a.from))) ≤ length a.out.now
fits c =
    let s = c.args.block.shifts in
    let h = rw (← s.power) at (c.roomy.ensures c.if-roomy.true) in
    plan_room_lem _ _ (shifts_some _ _ s) _ _ _ _ (ready_of c.args.r.now.ready).resolved c.requires.1 _ _ _ _ c.requires.0 h

-- its places are below 2 ^ 32
low : (c : Start) → (c.args.index * 4294967296 % 4294967296 + (c.args.end - c.args.from) ≤ 4294967296) × (0 ≤ 1099511627776)
unfolding chunk
low c = (omega (arith, c.requires.1), omega arith)

pub roomy-requires : goal.roomy-requires
roomy-requires c =
    (resolved_few _ _ _ _ _ (ready_of c.args.r.now.ready).resolved, omega (arith, c.requires.0), c.args.block.shifts.few)

pub walk_pieces-requires : goal.walk_pieces-requires
walk_pieces-requires c =
    record { from_lt_end = c.requires; from_bound = low (goal.at.walk_pieces-requires c).Start; from_in_bounds = (λ t. omega (arith, fits (goal.at.walk_pieces-requires c).Then-roomy, ap length (front_chunk c.args.index (planned (goal.at.walk_pieces-requires c).Start)))) }

pub returns-then-roomy : goal.returns-then-roomy
returns-then-roomy c =
    delivered_room _ (bytes (goal.at.returns-then-roomy c).Start) c.args.out.now Err Ok (fits (goal.at.returns-then-roomy c).Then-roomy) _ _ (counts (goal.at.returns-then-roomy c).Start _ c.walk_pieces.ensures.value) (writes (goal.at.returns-then-roomy c).Start _ _ c.walk_pieces.ensures.out_after)

pub walk_pieces-need-requires : goal.walk_pieces-need-requires
walk_pieces-need-requires c =
    record { from_lt_end = c.requires; from_bound = low (goal.at.walk_pieces-need-requires c).Start; from_in_bounds = (λ t. absurd (false≢true t)) }

pub returns-then-out-need : goal.returns-then-out-need
returns-then-out-need c =
    counted_short _ (bytes (goal.at.returns-then-out-need c).Start) c.args.out.now Err Ok _ c.walk_pieces-need.ensures.out_after _ (counts (goal.at.returns-then-out-need c).Start _ c.walk_pieces-need.ensures.value) c.if-out-need.true _ c.from.ensures

pub walk_pieces-requires-2 : goal.walk_pieces-requires-2
walk_pieces-requires-2 c =
    record { from_lt_end = c.requires; from_bound = low (goal.at.walk_pieces-requires-2 c).Start; from_in_bounds = (λ t. omega (arith, c.if-out-need.false, c.walk_pieces-need.ensures.value)) }

pub returns : goal.returns
returns c =
    counted_done _ (bytes (goal.at.returns c).Start) c.args.out.now Err Ok _ c.walk_pieces-need.ensures.out_after _ (counts (goal.at.returns c).Start _ c.walk_pieces-need.ensures.value) c.if-out-need.false _ _
    (counts (goal.at.returns c).Start _ c.walk_pieces-2.ensures.value) (writes (goal.at.returns c).Start _ _ c.walk_pieces-2.ensures.out_after)
