-- `names::put_full` meets its contract: the volume name, the slash and the short name. Assumes nothing.
use native.Mathlib.Omega.{arith}
use mathlib.Core.List.{append_assoc}
use Rattle.names.specs.Names.{full_name}
use Rattle.codec.proofs.Laws.Splice.{puts_then, puts_as}
use Rattle.names.proofs.Laws.Length.{full-length}
use Rattle.names.proofs.put_full.Goals as goal

pub put_word-slash-requires : goal.put_word-slash-requires
put_word-slash-requires c = omega (arith, full-length c.args.id c.args.block c.args.size c.args.volume.now, c.requires.1)

pub put_word-at-requires : goal.put_word-at-requires
put_word-at-requires c = omega (arith, full-length c.args.id c.args.block c.args.size c.args.volume.now, c.requires.1)

pub put-requires : goal.put-requires
put-requires c =
    (c.requires.0, omega (arith, full-length c.args.id c.args.block c.args.size c.args.volume.now, c.requires.1))

pub returns : goal.returns
unfolding full_name
returns c =
    let l = full-length c.args.id c.args.block c.args.size c.args.volume.now in
    let p2 = puts_then c.put_word-slash.ensures c.put_word-at.ensures (omega (arith, l, c.requires.1)) in
    let p3 = puts_then p2 c.put.ensures (omega (arith, l, c.requires.1)) in
    puts_as (full_name c.args.volume.now c.args.id c.args.block c.args.size) p3 (simp append_assoc) (omega (arith, l))
