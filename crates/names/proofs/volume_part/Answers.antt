-- `names::volume_part` meets its contract: the front of a name that was read, and nothing of one that is refused. Assumes nothing.
use native.Mathlib.Omega.{arith}
use Prim.Native.Nat.{ℕ}
use mathlib.Core.Path.{sym, ap, ◌∙◌}
use lib.ListN.{take, length-take}
use Rattle.names.proofs.Laws.Full.{volume_none, volume_some}
use Rattle.names.proofs.volume_part.Goals as goal

pub returns-in-Err : goal.returns-in-Err
returns-in-Err c = volume_none _ _ (sym c.in-Err.is ∙ c.requires)

pub slice_bounds-result-end-2 : goal.slice_bounds-result-end-2
slice_bounds-result-end-2 c = simp length-take (omega (arith, c.run-n.ensures.1))

pub returns : goal.returns
returns c =
    let name = c.args.name.now in
    ap (λ (k : ℕ). take k name) c.run-n.ensures.0 ∙ volume_some name _ (sym c.in_default.is ∙ c.requires)
