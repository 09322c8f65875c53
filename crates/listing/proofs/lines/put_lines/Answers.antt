-- `listing::lines::put_lines` meets its contract. Assumes nothing.
use Prim.Native.Nat.{◌/◌}
use native.Mathlib.Omega.{arith}
use native.Mathlib.Nat.{add-zero}
use native.Mathlib.Numerals.{add-one}
use mathlib.Core.Path.{◌≡◌, refl, sym}
use mathlib.Core.List.{flat_map}
use lib.ListN.{length}
use Rattle.codec.specs.Groups.{groups_from}
use Rattle.codec.specs.Inner.{Puts}
use Rattle.slices.specs.Limits.{record_size}
use Rattle.slices.specs.Record.{record_at, records_from, records, count}
use Rattle.listing.specs.Listing.{line, lines}
use Rattle.listing.specs.Calls.{line_room}
use Rattle.listing.proofs.Laws.Lines.{lines_more}
use Rattle.codec.proofs.Laws.Splice.{puts_then, puts_as, splice-nil}
use Rattle.listing.proofs.lines.put_lines.Goals as goal

pub loop-i-init : goal.loop-i-init
unfolding records_from groups_from lines flat_map
loop-i-init c =
    record { leaves = sym (splice-nil _ _); ends = sym (add-zero _); fits = omega arith }

pub loop-i-preserved : goal.loop-i-preserved
loop-i-preserved c =
    let a = c.args in
    let p : Puts c.loop-i.out c.loop-i.at (line (record_at a.view.now c.loop-i.i)) line_room c.put_line-at.result c.put_line-at.new.out =
    rw (← c.read_record.ensures) (record { leaves = c.put_line-at.ensures.2; ends = c.put_line-at.ensures.0; fits = omega arith }) in
    let q = puts_then c.loop-i.invariant p (omega arith) in
    rw (add-one, lines_more a.view.now c.loop-i.i) (puts_as _ q refl (omega arith))

pub returns : goal.returns
unfolding records count
returns c =
    let e : c.loop-i.i ≡ length c.args.view.now / record_size = omega arith in
    let p = rw e at c.loop-i.invariant in
    (p.ends, p.leaves)
