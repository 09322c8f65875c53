-- `slices::sizes::agrees` meets its contract. Assumes nothing.
use native.Mathlib.Omega.{arith}
use native.Mathlib.Decide.{dec_lt}
use mathlib.Core.Path.{sym, ◌∙◌}
use borrow.Author.Tests.{eqb-true}
use Rattle.slices.specs.Record.{count}
use Rattle.slices.proofs.Laws.Sizes.{agreed_new, agreed_first}
use Rattle.slices.proofs.sizes.agrees.Goals as goal

pub read_id-id-requires : goal.read_id-id-requires
unfolding count
read_id-id-requires c = omega arith

pub read_size-requires : goal.read_size-requires
unfolding count
read_size-requires c = omega (arith, c.first_with-first.ensures.within)

pub read_size-requires-2 : goal.read_size-requires-2
unfolding count
read_size-requires-2 c = omega arith

pub returns : goal.returns
returns c z a =
    let id = c.read_id-id.ensures in
    let first = c.first_with-first.ensures in
    elim (dec_lt c.first_with-first.result c.args.i) [
      | yes l ↦
          agreed_first _ _ a _ l (first.has l ∙ id) (λ k h e. first.none k h (e ∙ sym id)) (sym c.read_size.ensures ∙ eqb-true _ _ z ∙ c.read_size-2.ensures)
      | no l ↦ agreed_new _ _ a (λ k h e. first.none k (omega arith) (e ∙ sym id))
    ]
