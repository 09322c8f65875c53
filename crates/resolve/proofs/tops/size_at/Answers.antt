-- `resolve::tops::size_at` meets its contract. Assumes nothing.
use mathlib.Core.Path.{sym, ◌∙◌}
use Rattle.resolve.proofs.Laws.Tops.{size_zero, size_byte}
use Rattle.resolve.proofs.tops.size_at.Goals as goal

pub returns-then-read_id-eq0 : goal.returns-then-read_id-eq0
returns-then-read_id-eq0 c = sym (size_zero _ (sym c.read_id.ensures ∙ c.if-read_id-eq0.true))

pub returns : goal.returns
returns c = c.read_size-size.ensures ∙ sym (size_byte _ (λ e. c.if-read_id-eq0.false (c.read_id.ensures ∙ e)))
