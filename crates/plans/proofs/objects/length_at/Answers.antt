-- `plans::objects::length_at` meets its contract. Assumes nothing.
use native.Mathlib.Omega.{arith}
use mathlib.Core.Path.{◌∙◌}
use Rattle.plans.proofs.objects.length_at.Goals as goal

pub length_of-requires : goal.length_of-requires
length_of-requires c =
    record { off_lt_size = omega (arith, c.off_in.ensures, c.read_size-size.ensures, c.requires.passes.0.within c.requires.passes.1, c.requires.i_bound.0, c.requires.i_bound.1) }

pub returns : goal.returns
returns c = c.length_of.ensures ∙ rw (c.off_in.ensures, c.read_size-size.ensures)
