-- `plans::walk::walk_pieces` meets its contract. The invariant: the pieces before p are written, or counted. Assumes nothing.
use Prim.Native.Nat.{ℕ, ◌+◌, ◌-◌, ◌%◌, ◌^◌, ◌<◌}
use native.Mathlib.Nat.{le_refl}
use native.Mathlib.Omega.{arith}
use mathlib.Core.Path.{◌≡◌, ap, ◌∙◌}
use mathlib.Core.Bool.{cond}
use mathlib.Core.List.{List, flat_map}
use lib.ListN.{length, get_or}
use Rattle.codec.specs.Splice.{splice}
use Rattle.slices.specs.Limits.{chunk}
use Rattle.slices.specs.Record.{records}
use Rattle.resolve.specs.Resolved.{Holds, OnTop}
use Rattle.resolve.proofs.Laws.Resolved.{resolved_at}
use Rattle.runs.proofs.Laws.Loops.{filled_start, filled_room, filled_more, filled_end, filled_count}
use Rattle.plans.specs.Piece.{encode_run}
use Rattle.plans.specs.Plan.{pieces}
use Rattle.plans.specs.Inner.{pieces_left, front_bytes}
use Rattle.plans.proofs.Laws.Pieces.{front_on}
use Rattle.plans.proofs.Laws.Walk.{left_more, left_none, left_bytes}
use Rattle.resolve.proofs.Laws.Ready.{ready_of}
use Rattle.plans.proofs.walk.walk_pieces.Goals as goal
use Rattle.plans.proofs.walk.walk_pieces.Goals.{After-reach-run, In-loop-p, Start}

-- what is written is the plan's bytes
bytes : (c : Start) → let a = c.args in
    flat_map encode_run (pieces_left a.block.bytes (records a.r.now.list.now) a.front a.from a.end a.from) ≡ front_bytes a.front (pieces a.block.bytes (records a.r.now.list.now) a.from (a.end - a.from))
bytes c = let a = c.args in left_bytes a.block.bytes (records a.r.now.list.now) a.front a.from a.end

-- the segment that holds a piece's first position
held : (c : In-loop-p) → let a = c.args in Holds a.r.now.marks.now a.r.now.segments c.loop-p.k c.loop-p.p
held c = c.loop-p.invariant.1 c.loop-p-test.true

-- the record on top of it
on_top : (c : In-loop-p) → let a = c.args in OnTop a.r.now.list.now (get_or a.r.now.tops.now c.loop-p.k 0) c.loop-p.p (c.loop-p.p + 1)
on_top c = resolved_at _ _ _ _ _ (ready_of c.args.r.now.ready).resolved _ _ (held c)

pub loop-p-init : goal.loop-p-init
loop-p-init c =
    (filled_start _ _ _ _ _ _ _ _ _ (omega (arith, c.requires.from_lt_end.0)) (λ t. omega (arith, ap length (bytes (goal.at.loop-p-init c).Start), c.requires.from_in_bounds t)), (λ h. c.find-k.ensures), le_refl _)

pub offset_bounds-r-k : goal.offset_bounds-r-k
offset_bounds-r-k c = omega (arith, (held c).inside, (ready_of c.args.r.now.ready).in_tops)

pub bounds-r-k : goal.bounds-r-k
bounds-r-k c = omega (arith, (held (goal.at.bounds-r-k c).In-loop-p).inside, (ready_of c.args.r.now.ready).in_tops)

pub reach-run-requires : goal.reach-run-requires
reach-run-requires c =
    record { p_lt_end = (c.loop-p-test.true, c.requires.from_lt_end.1); holds = held (goal.at.reach-run-requires c).In-loop-p }

pub overflow_sub-at : goal.overflow_sub-at
overflow_sub-at c = omega (arith, c.loop-p.invariant.2)

-- the places of the chunk do not reach into the upper half
within : (c : After-reach-run) → let a = c.args in
    a.front % 2 ^ 32 + (c.loop-p.p - a.from) < 2 ^ 32
within c =
    omega (arith, c.loop-p-test.true, c.requires.from_bound.0)

pub overflow_add-front : goal.overflow_add-front
overflow_add-front c = omega (arith, within (goal.at.overflow_add-front c).After-reach-run, c.ranges.front)

pub overflow_sub-p : goal.overflow_sub-p
overflow_sub-p c = omega (arith, c.reach-run.ensures.leads.some)

pub put_if-requires : goal.put_if-requires
put_if-requires c =
    record { all = (ready_of c.args.r.now.ready).pass; on_top = on_top (goal.at.put_if-requires c).In-loop-p; piece_size_in_bounds = filled_room _ _ _ _ _ _ _ _ _ _ _ _ _ c.loop-p.invariant.0 c.reach-run.ensures.leads.some c.reach-run.ensures.leads.inside _ (left_more _ _ _ _ _ _ _ _ c.reach-run.ensures.leads) }

pub overflow_add-to : goal.overflow_add-to
unfolding chunk
overflow_add-to c =
    omega (arith, c.loop-p.invariant.0.few, c.loop-p.invariant.0.inside, c.requires.from_lt_end.1, c.requires.from_bound.1)

pub loop-p-smaller : goal.loop-p-smaller
loop-p-smaller c = omega (arith, c.reach-run.ensures.leads.some, c.reach-run.ensures.leads.inside)

pub loop-p-preserved : goal.loop-p-preserved
loop-p-preserved c =
    let i = c.loop-p.invariant in
    (filled_more _ _ _ _ _ _ _ _ _ _ _ _ _ i.0 c.reach-run.ensures.leads.some c.reach-run.ensures.leads.inside _ (left_more _ _ _ _ _ _ _ _ c.reach-run.ensures.leads) _ (rw (front_on _ _ _ _ (within (goal.at.loop-p-preserved c).After-reach-run)) at c.put_if.ensures), c.reach-run.ensures.holds_2, omega (arith, i.2, c.reach-run.ensures.leads.some))

pub shape_of-out : goal.shape_of-out
shape_of-out c = c.loop-p.invariant.0.puts.same

pub returns : goal.returns
returns c =
    let w = c.loop-p.invariant.0 in
    let none = left_none _ _ _ _ _ _ c.loop-p-test.false in
    record { value = filled_count _ _ _ _ _ _ _ _ _ _ _ _ w none ∙ ap (λ (xs : List ℕ). c.args.start + length xs) (bytes (goal.at.returns c).Start); out_after = filled_end _ _ _ _ _ _ _ _ _ _ _ _ w none ∙ ap (λ (xs : List ℕ). cond c.args.write (splice c.args.out.now c.args.start xs) c.args.out.now) (bytes (goal.at.returns c).Start) }
