-- `plans::reach::same_block_to` meets its contract: one record lies on top of a segment. Assumes nothing.
use native.Mathlib.Omega.{arith}
use mathlib.Core.Logic.{⊎_elim}
use Rattle.plans.proofs.Laws.Tops.{top_within}
use Rattle.resolve.proofs.Laws.Ready.{ready_of}
use Rattle.plans.proofs.reach.same_block_to.Goals as goal

pub same_top_to-requires : goal.same_top_to-requires
same_top_to-requires c =
    let u = c.until-e.ensures in
    record { all = (ready_of c.args.r.now.ready).pass; p_lt_e = ⊎_elim (λ f. omega (arith, c.requires.holds.to)) (λ f. omega (arith, c.requires.p_lt_end)) u.one; on_top = top_within _ _ _ _ ((ready_of c.args.r.now.ready).resolved.on_top _ c.requires.holds.inside) _ _ c.requires.holds.from u.left }

pub returns : goal.returns
returns c =
    let u = c.until-e.ensures in
    record { unbroken = (record { some = c.same_top_to.ensures.unbroken.some; inside = omega (arith, c.same_top_to.ensures.unbroken.inside, u.right); joins = c.same_top_to.ensures.unbroken.joins }, omega (arith, c.same_top_to.ensures.unbroken.inside, u.left)); stops = (λ h q e l. c.same_top_to.ensures.stops (⊎_elim (λ f. omega arith) (λ f. omega arith) u.one) q e (⊎_elim (λ f. omega arith) (λ f. omega arith) u.one)) }
