-- `resolve::resolve` meets its contract: the bounds of the records, sorted by their first positions, are swept. Assumes nothing.
use native.Mathlib.Omega.{arith}
use native.Mathlib.Nat.{le_refl}
use Rattle.slices.specs.Passes.{Passes}
use Rattle.slices.specs.Record.{count}
use Rattle.slices.proofs.Laws.Record.{records_at}
use Rattle.resolve.proofs.Laws.Resolved.{resolved}
use Rattle.resolve.proofs.resolve.Goals as goal

pub bounds-requires-clause-n_bound : goal.bounds-requires-clause-n_bound
unfolding count
bounds-requires-clause-n_bound c = (le_refl _, c.requires.list_in_bounds_2.0, c.requires.list_in_bounds_2.1)

pub sort-requires : goal.sort-requires
unfolding count
sort-requires c =
    (omega (arith, c.requires.list_in_bounds_2.0, c.bounds.auto.pos), c.requires.list_in_bounds_2.2, c.requires.list_in_bounds_2.3, omega (arith, c.requires.list_bound))

pub sweep-requires-clause-n_in_bounds : goal.sweep-requires-clause-n_in_bounds
unfolding count
sweep-requires-clause-n_in_bounds c =
    let b = c.bounds in
    let r = c.requires.list_in_bounds_2 in
    (omega (arith, r.0, b.auto.pos), omega (arith, r.1, b.auto.ends), omega (arith, r.2, c.sort.auto.order), c.requires.list_bound, (λ i l. omega (arith, b.ensures.first i l, (records_at Passes c.args.list.now c.requires.all i l).inside)))

pub sweep-requires-clause-n_in_bounds_2 : goal.sweep-requires-clause-n_in_bounds_2
unfolding count
sweep-requires-clause-n_in_bounds_2 c = (c.requires.list_in_bounds.0, c.requires.list_in_bounds.1)

pub sweep-requires-clause-by_index : goal.sweep-requires-clause-by_index
unfolding count
sweep-requires-clause-by_index c = λ i l. omega (arith, c.bounds.ensures.end i l, (records_at Passes c.args.list.now c.requires.all i l).inside)

pub returns : goal.returns
unfolding count
returns c =
    record {
      pass = c.requires.all;
      resolved = resolved _ _ _ c.bounds.ensures _ _ _ _ c.sweep.ensures.swept;
      in_marks = omega (arith, c.requires.list_in_bounds.0, c.sweep.ensures.upper_bound, c.sweep.auto.marks);
      in_tops = omega (arith, c.requires.list_in_bounds.1, c.sweep.ensures.upper_bound, c.sweep.auto.tops);
    }
