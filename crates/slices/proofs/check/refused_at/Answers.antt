-- `slices::check::refused_at` meets its contract. Assumes nothing.
use native.Mathlib.Omega.{arith}
use Rattle.slices.specs.Record.{count}
use Rattle.slices.proofs.Laws.Refusals.{refused_later}
use Rattle.slices.proofs.Laws.Sizes.{agreed_accepted, no_other}
use Rattle.slices.proofs.check.refused_at.Goals as goal

pub sound-i-requires : goal.sound-i-requires
unfolding count
sound-i-requires c = omega arith

pub returns-then-i-n : goal.returns-then-i-n
unfolding count
returns-then-i-n c =
    let s = c.sound-i.ensures in
    refused_later _ (λ j h. s.passed j (omega arith)) _ (no_other _ (agreed_accepted _ _ (omega arith) s.agreed))
