-- `listing::lines::put_lines` meets its contract. The invariant: the lines of the first i records are put. Assumes nothing.
use Prim.Native.Nat.{◌*◌}
use Rattle.codec.specs.Inner.{Puts}
use Rattle.slices.specs.Record.{records_from}
use Rattle.listing.specs.Listing.{lines}
use Rattle.listing.specs.Calls.{line_room}
use Rattle.listing.proofs.lines.put_lines.Given as goal

abbrev pub invariant-loop-i : goal.invariant-loop-i
invariant-loop-i l = Puts l.initial.out l.start (lines (records_from l.view 0 l.i)) (l.i * line_room) l.at l.out
