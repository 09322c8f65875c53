-- `files::file_end` meets its contract. Assumes nothing.
use native.Mathlib.Omega.{arith}
use Rattle.slices.specs.Limits.{chunk}
use Rattle.files.specs.File.{file_end}
use Rattle.files.proofs.file_end.Goals as goal

pub returns-then-file_len-before : goal.returns-then-file_len-before
unfolding file_end chunk
returns-then-file_len-before c = omega arith

pub returns-then-left-all : goal.returns-then-left-all
unfolding file_end chunk
returns-then-left-all c = omega arith

pub returns-else-left-all : goal.returns-else-left-all
unfolding file_end chunk
returns-else-left-all c = omega arith
