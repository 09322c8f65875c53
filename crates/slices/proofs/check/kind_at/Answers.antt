-- `slices::check::kind_at` meets its contract. Assumes nothing.
use Prim.Native.Nat.{ℕ}
use native.Mathlib.Omega.{arith}
use mathlib.Core.Path.{◌≡◌, sym, ap, ◌∙◌}
use mathlib.Core.List.{List}
use borrow.Author.Tests.{eq-eqb, ne_eqb}
use Rattle.std.specs.Prelude.{Option, Some, None}
use Rattle.std.specs.Option.{unwrap_or}
use Rattle.outcomes.specs.Kinds.{number_of, number_or_0}
use Rattle.outcomes.specs.declared.kind.Kind.{Kind}
use Rattle.outcomes.specs.declared.kind.Kind.TheVariants.{TwoSizes}
use Rattle.outcomes.proofs.Laws.Kinds.{number_not_0}
use Rattle.slices.specs.Record.{count, record_at}
use Rattle.slices.specs.Inner.{fault, number_at}
use Rattle.slices.proofs.check.kind_at.Goals as goal

pub read_record-requires : goal.read_record-requires
unfolding count
read_record-requires c = omega arith

-- the number of its own fault, or else 16
own_or_16 : (o : Option Kind) (bs : List ℕ) (p : ℕ) → number_or_0 o ≡ fault (record_at bs p) → number_of (unwrap_or o TwoSizes) ≡ number_at bs p
unfolding number_at
own_or_16 (Some k) bs p e = rw (ne_eqb (fault (record_at bs p)) 0 (λ z. number_not_0 k (e ∙ z))) e
own_or_16 None bs p e = rw (eq-eqb (fault (record_at bs p)) 0 (sym e))

pub returns : goal.returns
returns c = ap number_of c.unwrap_or.ensures ∙ own_or_16 _ _ _ (c.check_record.ensures ∙ ap fault c.read_record.ensures)
