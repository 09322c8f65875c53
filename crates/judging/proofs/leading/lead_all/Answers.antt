-- `judging::leading::lead_all` meets its contract. The invariant: the lists before k are gone by, and the room is for as many records. Assumes nothing.
use Rattle.std.proofs.Common.{rules}
use native.Mathlib.Omega.{arith}
use mathlib.Core.Path.{refl}
use Rattle.joined.proofs.Laws.Lists.{gone_within}
use Rattle.files.specs.Inner.{Fits}
use Rattle.judging.proofs.Laws.Lists.{holds_here, led_start, led_more}
use Rattle.judging.proofs.leading.lead_all.Goals as goal

pub loop-k-init : goal.loop-k-init
loop-k-init c =
    (c.requires.lengths_value.0, led_start _ _ c.requires.lengths_value.0 _ _ _ _ _, refl)

pub overflow_add-stop : goal.overflow_add-stop
overflow_add-stop c = let l = c.loop-k.invariant in omega (arith, gone_within _ _ _ _ l.1.gone c.loop-k-test.true)

pub slice_bounds-lead_list-end : goal.slice_bounds-lead_list-end
slice_bounds-lead_list-end c = let l = c.loop-k.invariant in gone_within _ _ _ _ l.1.gone c.loop-k-test.true

pub lead_list-led-requires : goal.lead_list-led-requires
lead_list-led-requires c =
    let i = c.loop-k.invariant in
    let h = c.loop-k-test.true in
    let a = c.args in
    let f = holds_here _ _ c.loop-k.invariant.0 _ _ c.loop-k.invariant.1.gone h _ refl (Fits a.room.now.records) c.requires.lengths_value.1 in
    record { resolvable = (f.0, omega (arith, f.1, i.2)); n_bound = c.requires.lengths_len_bound.1; number_in_bounds = (i.1.led.within, i.1.led.inside, i.1.led.order) }

pub loop-k-preserved : goal.loop-k-preserved
loop-k-preserved c =
    let i = c.loop-k.invariant in
    (i.0, led_more _ _ _ _ _ _ _ _ _ _ _ _ i.1 c.loop-k-test.true _ refl _ _ c.lead_list-led.ensures.leads, search rules)

pub returns : goal.returns
returns c = c.loop-k.invariant.1.led
