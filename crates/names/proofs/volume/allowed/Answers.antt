-- `names::volume::allowed` meets its contract, case by case. Assumes nothing.
use lib.Dec.{eqb}
use Rattle.std.proofs.Common.{rules}
use Rattle.names.specs.Limits.{max_volume}
use Rattle.names.specs.Volume.{volume_allowed}
use Rattle.names.proofs.Laws.Volume.{run_all}
use borrow.Author.Tests.{le-leb}
use lib.ListN.{length}
use Prim.Native.Nat.{ℕ}
use mathlib.Core.Path.{sym, ap, ◌∙◌}
use Rattle.names.proofs.volume.allowed.Goals as goal

pub returns-then-n-le-MAX_VOLUME : goal.returns-then-n-le-MAX_VOLUME
unfolding volume_allowed
returns-then-n-le-MAX_VOLUME c =
    let v = c.args.volume.now in
    let t = c.if-n-le-MAX_VOLUME.true in
    simp (le-leb 1 (length v) t.0, le-leb (length v) max_volume t.1) (ap (λ (k : ℕ). eqb k (length v)) c.run.ensures.0 ∙ sym (run_all v))

pub returns-else-n-le-MAX_VOLUME : goal.returns-else-n-le-MAX_VOLUME
unfolding volume_allowed
returns-else-n-le-MAX_VOLUME c = search rules
