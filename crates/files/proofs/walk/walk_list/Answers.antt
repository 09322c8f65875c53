-- `files::walk::walk_list` meets its contract: nothing for a chunk without a place of the read, else what the walk over its pieces does.
-- Assumes nothing.
use Prim.Native.Nat.{◌+◌, ◌-◌, ◌*◌}
use native.Mathlib.Omega.{arith}
use mathlib.Core.Path.{◌≡◌, refl, ap}
use lib.ListN.{length}
use Rattle.slices.specs.Limits.{chunk}
use Rattle.slices.specs.Record.{records}
use Rattle.plans.specs.Inner.{front_bytes}
use Rattle.plans.specs.Piece.{encode_pieces}
use Rattle.plans.specs.Plan.{pieces}
use Rattle.files.specs.File.{part_from, part_end, chunk_plan}
use Rattle.files.proofs.Laws.Walk.{nothing_put, front_here}
use Rattle.files.proofs.walk.walk_list.Goals as goal
use Rattle.files.proofs.walk.walk_list.Goals.{After-resolved-r}

pub returns-then-part : goal.returns-then-part
returns-then-part c =
    let p = c.part-part.ensures in
    let a = c.args in
    let both = nothing_put _ _ _ _ _ _ _ _ p.0 p.1 c.if-part.true a.write a.out.now a.start in
    record { value = both.0; out_after = both.1; room_after = refl }

pub resolve-segments-requires : goal.resolve-segments-requires
resolve-segments-requires c = record { all = c.requires.resolvable.0.pass; few = c.requires.resolvable.1 }

pub overflow_add-front : goal.overflow_add-front
overflow_add-front c = omega (arith, c.requires.k_lt_max_lists.1)

pub overflow_mul-front : goal.overflow_mul-front
overflow_mul-front c = omega (arith, c.requires.k_lt_max_lists.1)

pub places_before-requires : goal.places_before-requires
places_before-requires c = c.requires.k_lt_max_lists.0

pub overflow_add-front-2 : goal.overflow_add-front-2
overflow_add-front-2 c = omega (arith, c.requires.k_lt_max_lists.1, c.places_before.type_inv)

-- what is put is the chunk's part of the plan
same : (c : After-resolved-r)
    → let a = c.args in
    let part = c.part-part.result in
    front_bytes ((a.first + a.k) * 4294967296 + c.places_before.result) (pieces a.block.bytes (records c.resolved-r.result.list.now) part.from (part.end - part.from))
    ≡ encode_pieces (chunk_plan a.first a.block.bytes a.from a.end a.k (records a.list.now))
same c =
    let p = c.part-part.ensures in
    rw c.resolved-r.ensures (front_here _ _ _ _ _ _ _ _ p.0 p.1 _ c.places_before.ensures c.places_before.type_inv)

pub walk_pieces-requires : goal.walk_pieces-requires
unfolding part_from part_end chunk
walk_pieces-requires c =
    let e = c.part-part.ensures in
    let before = c.places_before in
    record { from_lt_end = (c.if-part.false, omega (arith, e.1)); from_bound = (omega (arith, e.0, e.1, before.ensures, c.requires.k_lt_max_lists.0), c.requires.k_lt_max_lists.2); from_in_bounds = (λ t. omega (arith, c.requires.list_in_bounds t, ap length (same (goal.at.walk_pieces-requires c).After-resolved-r))) }

pub returns : goal.returns
returns c =
    let e = same (goal.at.returns c).After-resolved-r in
    record { value = rw e at c.walk_pieces.ensures.value; out_after = rw e at c.walk_pieces.ensures.out_after; room_after = c.resolve-segments.ensures.same }
