-- `listing::lines::put_view` meets its contract: the header, and the lines behind it. Assumes nothing.
use native.Mathlib.Omega.{arith}
use native.Mathlib.Nat.{zero-add}
use mathlib.Core.Path.{◌∙◌}
use lib.ListN.{length}
use Rattle.slices.specs.Record.{records}
use Rattle.codec.specs.Inner.{Puts}
use Rattle.codec.proofs.Laws.Splice.{puts_then}
use Rattle.listing.specs.Listing.{header, lines}
use Rattle.listing.proofs.lines.put_view.Goals as goal

pub returns : goal.returns
returns c =
    let a = c.args in
    let p : Puts a.out.now 0 header (length header) _ _ = record { leaves = c.put-start.ensures.1; ends = c.put-start.ensures.0; fits = omega arith } in
    let q : Puts _ _ (lines (records a.view.now)) (length (lines (records a.view.now))) _ _ = record { leaves = c.put_lines.ensures.1; ends = c.put_lines.ensures.0; fits = omega arith } in
    let both = puts_then p q (omega arith) in
    (both.ends ∙ zero-add _, both.leaves)
