-- `names::volume::run` meets its contract. The invariant: the run is what was counted and the run of the rest. Assumes nothing.
use lib.ListN.{drop_of_length-le}
use Rattle.names.proofs.Laws.Volume.{run_stops, run_goes}
use Rattle.names.specs.Volume.{volume_run}
use native.Mathlib.Numerals.{add-one}
use native.Mathlib.Omega.{arith}
use mathlib.Core.Path.{sym, ◌∙◌}
use Rattle.names.proofs.volume.run.Goals as goal

pub loop-i-init : goal.loop-i-init
loop-i-init c = omega arith

pub returns-then-not-is_volume_byte : goal.returns-then-not-is_volume_byte
returns-then-not-is_volume_byte c =
    let a = c.args in
    (sym (c.loop-i.invariant.1 ∙ run_stops a.text.now c.loop-i.i c.loop-i-test.true (sym c.is_volume_byte.ensures ∙ c.if-not-is_volume_byte.true)), c.loop-i.invariant.0)

pub loop-i-preserved : goal.loop-i-preserved
loop-i-preserved c =
    let a = c.args in
    (omega arith, c.loop-i.invariant.1 ∙ run_goes a.text.now c.loop-i.i c.loop-i-test.true (sym c.is_volume_byte.ensures ∙ c.if-not-is_volume_byte.false) ∙ rw add-one)

pub returns : goal.returns
unfolding volume_run
returns c =
    let a = c.args in
    (sym (c.loop-i.invariant.1 ∙ rw (drop_of_length-le a.text.now c.loop-i-test.false) (omega (arith, c.loop-i.invariant.0, c.loop-i-test.false))), omega arith)
