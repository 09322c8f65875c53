-- `slices::cover::given` meets its contract: a zero or a byte by the record's id. Assumes nothing.
use Prim.Native.Nat.{◌+◌, ◌-◌}
use native.Mathlib.Omega.{arith}
use mathlib.Core.Path.{◌≡◌, sym, ap, ◌∙◌}
use Rattle.slices.proofs.Laws.Cover.{given-zero, given_byte}
use Rattle.slices.specs.declared.Record.{Record}
use Rattle.slices.proofs.cover.given.Goals as goal

pub returns-then-r-eq0 : goal.returns-then-r-eq0
returns-then-r-eq0 c = sym (given-zero _ _ (ap (λ (r : Record). r.id) (sym c.read_record-r.ensures) ∙ c.if-r-eq0.true))

pub returns : goal.returns
returns c =
    let e : c.read_record-r.result.pos + c.args.d - c.read_record-r.result.pos ≡ c.args.d = omega arith in
    rw (← c.read_record-r.ensures) (sym (given_byte _ _ c.if-r-eq0.false ∙ rw e))
