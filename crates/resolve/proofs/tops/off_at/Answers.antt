-- `resolve::tops::off_at` meets its contract. Assumes nothing.
use mathlib.Core.Path.{sym, ◌∙◌}
use Rattle.resolve.proofs.Laws.Tops.{off_zero, off_byte}
use Rattle.resolve.proofs.tops.off_at.Goals as goal

pub returns-then-read_id-eq0 : goal.returns-then-read_id-eq0
returns-then-read_id-eq0 c = sym (off_zero _ _ (sym c.read_id.ensures ∙ c.if-read_id-eq0.true))

pub returns : goal.returns
returns c = c.off_in-off.ensures ∙ sym (off_byte _ _ (λ e. c.if-read_id-eq0.false (c.read_id.ensures ∙ e)))
