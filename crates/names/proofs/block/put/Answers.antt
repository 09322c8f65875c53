-- `names::block::put` meets its contract: the parts of a name, one behind the other. Assumes nothing.
use native.Mathlib.Omega.{arith}
use Rattle.names.specs.Names.{object_name}
use Rattle.codec.proofs.Laws.Splice.{puts_then, puts_as}
use Rattle.names.proofs.Laws.Length.{name_parts, parts-length}
use Rattle.names.proofs.block.put.Goals as goal

pub put_word-next-requires : goal.put_word-next-requires
put_word-next-requires c =
    omega (arith, parts-length c.args.id c.args.block c.args.size, c.requires.0.of_block, c.requires.0.of_size, c.requires.1)

pub put-bar-requires : goal.put-bar-requires
put-bar-requires c =
    (c.requires.0.of_id, omega (arith, parts-length c.args.id c.args.block c.args.size, c.requires.0.of_block, c.requires.0.of_size, c.requires.1))

pub put_word-second-requires : goal.put_word-second-requires
put_word-second-requires c =
    omega (arith, parts-length c.args.id c.args.block c.args.size, c.requires.0.of_block, c.requires.0.of_size, c.requires.1)

pub put_number_word-third-requires : goal.put_number_word-third-requires
put_number_word-third-requires c =
    (c.requires.0.of_block, omega (arith, parts-length c.args.id c.args.block c.args.size, c.requires.0.of_block, c.requires.0.of_size, c.requires.1))

pub put_digits-requires : goal.put_digits-requires
put_digits-requires c =
    (c.requires.0.of_size, omega (arith, parts-length c.args.id c.args.block c.args.size, c.requires.0.of_block, c.requires.0.of_size, c.requires.1))

pub returns : goal.returns
returns c =
    let l = parts-length c.args.id c.args.block c.args.size in
    let b = c.requires.0.of_block in
    let z = c.requires.0.of_size in
    let p2 = puts_then c.put_word-next.ensures c.put-bar.ensures (omega (arith, l, b, z, c.requires.1)) in
    let p3 = puts_then p2 c.put_word-second.ensures (omega (arith, l, b, z, c.requires.1)) in
    let p4 = puts_then p3 c.put_number_word-third.ensures (omega (arith, l, b, z, c.requires.1)) in
    let p5 = puts_then p4 c.put_digits.ensures (omega (arith, l, b, z, c.requires.1)) in
    puts_as (object_name c.args.id c.args.block c.args.size) p5 (name_parts c.args.id c.args.block c.args.size) (omega (arith, l, b, z))
