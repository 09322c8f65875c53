-- `plans::objects::number_at` meets its contract. Assumes nothing.
use Prim.Native.Nat.{ℕ, ◌/◌, ◌^◌}
use mathlib.Core.Path.{ap, ◌∙◌}
use Rattle.plans.proofs.objects.number_at.Goals as goal

pub returns : goal.returns
returns c = c.number_of.ensures ∙ ap (λ (o : ℕ). o / 2 ^ c.args.bits) c.off_in.ensures
