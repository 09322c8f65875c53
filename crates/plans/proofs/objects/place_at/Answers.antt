-- `plans::objects::place_at` meets its contract. Assumes nothing.
use Prim.Native.Nat.{ℕ, ◌%◌}
use mathlib.Core.Path.{ap, ◌∙◌}
use Rattle.plans.proofs.objects.place_at.Goals as goal

pub returns : goal.returns
returns c = c.place_of.ensures ∙ ap (λ (o : ℕ). o % c.args.block.bytes) c.off_in.ensures
