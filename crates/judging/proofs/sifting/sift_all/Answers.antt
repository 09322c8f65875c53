-- `judging::sifting::sift_all` meets its contract. The invariant: the lists before k are gone by, and the room is for as many records. Assumes nothing.
use Rattle.std.proofs.Common.{rules}
use native.Mathlib.Omega.{arith}
use mathlib.Core.Path.{refl}
use Rattle.joined.proofs.Laws.Lists.{gone_within}
use Rattle.files.specs.Inner.{Fits}
use Rattle.judging.proofs.Laws.Lists.{holds_here, sifted_start, sifted_more, sifted_end}
use Rattle.judging.proofs.sifting.sift_all.Goals as goal

pub loop-k-init : goal.loop-k-init
loop-k-init c =
    (c.requires.lengths_value.0, sifted_start _ _ c.requires.lengths_value.0 _ _ _ _ _ _, refl)

pub overflow_add-stop : goal.overflow_add-stop
overflow_add-stop c = let l = c.loop-k.invariant in omega (arith, gone_within _ _ _ _ l.1.gone c.loop-k-test.true)

pub slice_bounds-sift_list-end : goal.slice_bounds-sift_list-end
slice_bounds-sift_list-end c = let l = c.loop-k.invariant in gone_within _ _ _ _ l.1.gone c.loop-k-test.true

pub sift_list-left-requires : goal.sift_list-left-requires
sift_list-left-requires c =
    let i = c.loop-k.invariant in
    let h = c.loop-k-test.true in
    let a = c.args in
    let f = holds_here _ _ c.loop-k.invariant.0 _ _ c.loop-k.invariant.1.gone h _ refl (Fits a.room.now.records) c.requires.lengths_value.1 in
    record { resolvable = (f.0, omega (arith, f.1, i.2)); k_lt_max_lists = (omega (arith, h, c.requires.lengths_len_bound.0), c.requires.lengths_len_bound.1); limit_in_bounds = (omega (arith, i.1.within, c.requires.limit_in_bounds.0), λ j m. c.requires.limit_in_bounds.1 j (omega (arith, i.1.within))) }

pub loop-k-preserved : goal.loop-k-preserved
loop-k-preserved c =
    let i = c.loop-k.invariant in
    (i.0, sifted_more _ _ _ _ _ _ _ _ _ _ _ _ i.1 c.loop-k-test.true _ refl _ c.sift_list-left.ensures.sifts, search rules)

pub returns : goal.returns
returns c = sifted_end _ _ c.loop-k.invariant.0 _ _ _ _ _ _ _ _ _ c.loop-k.invariant.1 c.loop-k-test.false
