-- `slices::check::check_record` meets its contract: at each `return` the tests that led there say which number it is. Assumes nothing.
use native.Mathlib.Omega.{arith}
use mathlib.Core.Logic.{inl, inr}
use Rattle.slices.specs.Limits.{chunk}
use Rattle.slices.proofs.Laws.Refusals.{fault_3, fault_4, fault_5_off, fault_5_size, fault_0_zeros, fault_6, fault_0_slice}
use Rattle.slices.proofs.check.check_record.Goals as goal

pub returns-then-r : goal.returns-then-r
unfolding chunk
returns-then-r c = fault_3 _ (omega arith)

pub returns-then-r-gt-CHUNK : goal.returns-then-r-gt-CHUNK
unfolding chunk
returns-then-r-gt-CHUNK c = fault_4 _ (omega arith) (omega arith)

pub returns-then-r-ne0 : goal.returns-then-r-ne0
unfolding chunk
returns-then-r-ne0 c = fault_5_off _ (omega arith) (omega arith) (omega arith) (λ e. omega arith)

pub returns-then-r-eq0-2 : goal.returns-then-r-eq0-2
unfolding chunk
returns-then-r-eq0-2 c = fault_0_zeros _ (omega arith) (omega arith) (omega arith) (omega arith) (inl (omega arith))

pub returns-then-r-2 : goal.returns-then-r-2
unfolding chunk
returns-then-r-2 c =
    fault_5_size _ (omega arith) (omega arith) (omega arith) (omega arith) (λ e. omega arith) (λ e. omega arith)

pub returns-then-r-eq0 : goal.returns-then-r-eq0
unfolding chunk
returns-then-r-eq0 c = fault_0_zeros _ (omega arith) (omega arith) (omega arith) (omega arith) (inr (omega arith))

pub returns-then-r-3 : goal.returns-then-r-3
unfolding chunk
returns-then-r-3 c = fault_6 _ (omega arith) (omega arith) c.if-r-eq0.false (omega arith)

pub returns : goal.returns
unfolding chunk
returns c = fault_0_slice _ (omega arith) (omega arith) c.if-r-eq0.false (omega arith)
