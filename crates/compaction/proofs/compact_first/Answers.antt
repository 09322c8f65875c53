-- `compaction::compact_first` meets its contract: where a buffer is too short both are left alone, else both answers are written.
-- Assumes nothing.
use Prim.Native.Nat.{◌*◌}
use native.Mathlib.Omega.{arith}
use mathlib.Core.Path.{refl, sym}
use lib.ListN.{take}
use lib.Seq.{length-take-le}
use Rattle.codec.specs.All.{All, Bytes}
use Rattle.slices.specs.Limits.{record_size}
use Rattle.slices.specs.Passes.{Passes}
use Rattle.slices.specs.Record.{count, records}
use Rattle.codec.proofs.Laws.All.{all_bytes}
use Rattle.outcomes.proofs.Laws.Answers.{replies_refused}
use Rattle.compaction.proofs.Laws.NewList.{stand_most}
use Rattle.compaction.proofs.Laws.Delivery.{firsts_pass, firsts_few, first_short_list, first_refused, first_done}
use Rattle.std.proofs.lemmas.Result.{err_from_is_err_and}
use Rattle.compaction.proofs.compact_first.Goals as goal
use Rattle.compaction.proofs.compact_first.Goals.{After-shared_slice_known-1}

-- the list's elements are bytes
bytes : (c : After-shared_slice_known-1) → Bytes c.args.list.now
bytes c = all_bytes c.args.list.now (λ i. (c.type_inv.list i).fits)

-- the first k records pass
passing : (c : After-shared_slice_known-1) → let bs = c.args.list.now in All Passes (records (take (c.args.k * record_size) bs))
passing c = firsts_pass _ (bytes c) c.requires.accepts.whole _ c.requires.k_bound c.requires.accepts.pass

pub slice_bounds-firsts-end : goal.slice_bounds-firsts-end
unfolding count
slice_bounds-firsts-end c = sym (length-take-le (c.args.k * record_size) c.args.list.now (omega (arith, c.requires.k_bound)))

pub span-span-requires : goal.span-span-requires
span-span-requires c = passing (goal.at.span-span-requires c).After-shared_slice_known-1

pub overflow_sub-list_bytes : goal.overflow_sub-list_bytes
unfolding count
overflow_sub-list_bytes c = omega (arith, c.requires.k_bound)

pub overflow_add-list_bytes : goal.overflow_add-list_bytes
unfolding count
overflow_add-list_bytes c =
    omega (arith, c.requires.accepts.few, c.stand_in_bytes.ensures, stand_most c.span-span.result.from c.span-span.result.end c.args.new_id)

pub returns-then-new_list-list_bytes : goal.returns-then-new_list-list_bytes
returns-then-new_list-list_bytes c =
    replies_refused _ _ _ _
    (first_short_list _ (bytes (goal.at.returns-then-new_list-list_bytes c).After-shared_slice_known-1) c.requires.accepts.whole _ c.requires.k_bound _ _ c.span-span.ensures _ _ c.args.new_id _ c.stand_in_bytes.ensures c.args.plan.now c.args.new_list.now c.if-new_list-list_bytes.true)
    c.from.ensures (refl, (refl, tt))

pub planned-requires : goal.planned-requires
planned-requires c =
    let e = c.span-span.ensures in
    record { all = passing (goal.at.planned-requires c).After-shared_slice_known-1; list_bound = (firsts_few c.args.list.now (c.args.k * record_size) c.requires.accepts.few, e.order, e.inside) }

pub write_list-requires : goal.write_list-requires
unfolding count
write_list-requires c =
    record { cut_in_bounds = omega (arith, c.requires.k_bound); cut_in_bounds_2 = omega (arith, c.stand_in_bytes.ensures, c.if-new_list-list_bytes.false) }

pub returns-in_err-plan_bytes : goal.returns-in_err-plan_bytes
returns-in_err-plan_bytes c =
    let p = err_from_is_err_and c.from_residual.result c.from_residual.ensures.1 in
    rw (p.1, p.2)
    (first_refused _ (bytes (goal.at.returns-in_err-plan_bytes c).After-shared_slice_known-1) c.requires.accepts.whole _ c.requires.k_bound _ _ c.span-span.ensures _ _ c.args.new_id _ c.stand_in_bytes.ensures _ _ c.if-new_list-list_bytes.false _ _ c.planned.ensures _ c.in_err-plan_bytes.was)

pub returns : goal.returns
returns c =
    first_done _ (bytes (goal.at.returns c).After-shared_slice_known-1) c.requires.accepts.whole _ c.requires.k_bound _ _ c.span-span.ensures _ _ c.args.new_id _ c.stand_in_bytes.ensures _ _ c.if-new_list-list_bytes.false _ _ c.planned.ensures _ c.in_ok-plan_bytes.was _ c.write_list.ensures
