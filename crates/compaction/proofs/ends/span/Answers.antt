-- `compaction::ends::span` meets its contract. The invariant: `low` and `high` are those of the records from i on; of all records they tell the
-- first and the last covered position. Assumes nothing.
use Prim.Native.Nat.{◌-◌}
use native.Mathlib.Omega.{arith}
use native.Mathlib.Nat.{le_refl}
use mathlib.Core.Path.{◌≡◌, sym, ap, ◌∙◌}
use Rattle.slices.specs.Limits.{chunk}
use Rattle.slices.specs.Passes.{Passes}
use Rattle.slices.specs.Record.{count, records}
use Rattle.slices.proofs.Laws.Record.{records_at}
use Rattle.slices.proofs.Laws.Left.{left_all}
use Rattle.compaction.specs.Inner.{lowest, highest}
use Rattle.compaction.proofs.Laws.Scan.{lowest_none, lowest_back, highest_none, highest_back}
use Rattle.compaction.proofs.Laws.Told.{ends_none, ends_some}
use Rattle.compaction.proofs.ends.span.Goals as goal

pub loop-i-init : goal.loop-i-init
unfolding count chunk
loop-i-init c = (lowest_none _ _ (le_refl _), highest_none _ _ (le_refl _))

pub higher-high-requires : goal.higher-high-requires
unfolding count
higher-high-requires c =
    omega (arith, (records_at Passes c.args.list.now c.requires (c.loop-i.i - 1) (omega arith)).inside, c.read_len-len.ensures, c.read_pos-pos.ensures)

pub loop-i-preserved : goal.loop-i-preserved
unfolding count
loop-i-preserved c =
    let inv = c.loop-i.invariant in (
      c.lower-low.ensures ∙ rw (c.read_len-len.ensures, c.read_pos-pos.ensures) (lowest_back _ _ _ c.loop-i-test.true c.loop-i.auto.i inv.0),
      c.higher-high.ensures ∙ rw (c.read_len-len.ensures, c.read_pos-pos.ensures) (highest_back _ _ _ c.loop-i-test.true c.loop-i.auto.i inv.1),
    )

pub returns-then-low-eq-CHUNK : goal.returns-then-low-eq-CHUNK
unfolding chunk
returns-then-low-eq-CHUNK c =
    let e : c.loop-i.i ≡ 0 = omega arith in
    ends_none _ (sym (c.loop-i.invariant.0 ∙ rw e (ap lowest (left_all _))) ∙ c.if-low-eq-CHUNK.true)

pub returns : goal.returns
unfolding chunk
returns c =
    let rs = records c.args.list.now in
    let e : c.loop-i.i ≡ 0 = omega arith in
    let low : c.loop-i.low ≡ lowest rs = c.loop-i.invariant.0 ∙ rw e (ap lowest (left_all _)) in
    let high : c.loop-i.high ≡ highest rs = c.loop-i.invariant.1 ∙ rw e (ap highest (left_all _)) in
    rw (low, high) (ends_some rs c.requires (λ k. c.if-low-eq-CHUNK.false (low ∙ k)))
