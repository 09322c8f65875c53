-- `slices::check::sound` meets its contract. Assumes nothing.
use native.Mathlib.Omega.{arith}
use mathlib.Core.Path.{sym, ap, ◌∙◌}
use Rattle.slices.specs.Record.{count}
use Rattle.slices.specs.Inner.{fault}
use Rattle.outcomes.proofs.Laws.Kinds.{none_is_0}
use Rattle.slices.proofs.Laws.Sizes.{one_more}
use Rattle.slices.proofs.check.sound.Goals as goal

pub agrees-requires : goal.agrees-requires
unfolding count
agrees-requires c = c.loop-i-test.true

pub loop-i-preserved : goal.loop-i-preserved
unfolding count
loop-i-preserved c =
    let l = c.loop-i.invariant in
    let e = c.check_record.ensures ∙ ap fault c.read_record.ensures in
    record {
      within = omega (arith, c.loop-i-test.true);
      passed = one_more _ _ l.passed (sym e ∙ none_is_0 _ (sym c.is_some.ensures ∙ c.if-is_some.false));
      agreed = c.agrees.ensures c.if-not-agrees.false l.agreed;
    }
