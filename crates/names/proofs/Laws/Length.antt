-- How long names and their parts are. Assumes nothing.
use Prim.Native.Nat.{ℕ, ◌+◌, ◌-◌, ◌/◌, max}
use native.Mathlib.Omega.{arith}
use mathlib.Core.Path.{◌≡◌, sym, ap, ◌∙◌}
use mathlib.Core.List.{List, ◌++◌, append_assoc}
use lib.ListN.{length, length-append}
use Rattle.codec.specs.Decimal.{decimal}
use Rattle.codec.proofs.Laws.Width.{thousandth_width}
use Rattle.texts.specs.Words.{underscore}
use Rattle.names.specs.Words.{chunks}
use Rattle.names.specs.Names.{object_name, full_name}
use Rattle.names.specs.Inner.{Widths, name_length, slice_path}

pub millionth_width : (n : ℕ) → length (decimal (n / 1000 / 1000)) ≡ max 1 (max 1 (length (decimal n) - 3) - 3)
millionth_width n = thousandth_width (n / 1000) ∙ ap (λ (w : ℕ). max 1 (w - 3)) (thousandth_width n)

pub slice_length : (id : ℕ) → length (slice_path id) ≡ length (decimal (id / 1000 / 1000)) + (1 + (length (decimal (id / 1000)) + (1 + length (decimal id))))
unfolding slice_path
slice_length id = simp length-append (omega arith)

sum : (x y i b s : ℕ) → 7 + (x + (1 + (y + (1 + i))) + (1 + (b + (1 + s)))) ≡ 11 + x + y + i + b + s
sum x y i b s = omega arith

module _ (id block size : ℕ) where
  -- a name by the parts that the code puts
  pub name_parts : (((chunks ++ slice_path id) ++ underscore) ++ (decimal block ++ underscore)) ++ decimal size ≡ object_name id block size
  unfolding slice_path object_name
  name_parts = simp append_assoc

  pub parts-length : length (object_name id block size) ≡ 7 + (length (slice_path id) + (1 + (length (decimal block) + (1 + length (decimal size)))))
  parts-length = ap length (sym name_parts) ∙ simp length-append (omega arith)

  pub name_length_lem : {i b s : ℕ} → Widths id block size i b s → length (object_name id block size) ≡ name_length i b s
  name_length_lem {i} {b} {s} w =
      let m = millionth_width id in
      let t = thousandth_width id in
      rw (w.of_id, w.of_block, w.of_size, ← m, ← t) (parts-length ∙ ap (λ (n : ℕ). 7 + (n + (1 + (length (decimal block) + (1 + length (decimal size)))))) (slice_length id) ∙ sum _ _ _ _ _)

  pub full-length : (volume : List ℕ) → length (full_name volume id block size) ≡ length volume + (1 + length (object_name id block size))
  unfolding full_name
  full-length volume = simp length-append (omega arith)
