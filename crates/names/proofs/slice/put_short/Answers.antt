-- `names::slice::put_short` meets its contract: a 0, the thousands and the id, one behind the other. Assumes nothing.
use native.Mathlib.Omega.{arith}
use mathlib.Core.Path.{◌≡◌, sym, ap, ◌∙◌}
use Prim.Native.Nat.{ℕ, ◌-◌, ◌/◌, max}
use lib.ListN.{length}
use Rattle.codec.specs.Decimal.{decimal}
use Rattle.names.specs.Inner.{slice_path}
use Rattle.codec.proofs.Laws.Splice.{puts_then, puts_as}
use Rattle.codec.proofs.Laws.Width.{thousandth_width}
use Rattle.names.proofs.Laws.Length.{slice_length}
use Rattle.names.proofs.Laws.Slice.{no_millions, short_parts}
use Rattle.names.proofs.slice.put_short.Goals as goal
use Rattle.names.proofs.slice.put_short.Goals.{After-thousandth-thousands}

-- how many digits the thousands have
thousands : (c : After-thousandth-thousands) → c.thousandth-thousands.result ≡ length (decimal (c.args.id / 1000))
thousands c =
    c.thousandth-thousands.ensures ∙ ap (λ (w : ℕ). max 1 (w - 3)) c.requires.1 ∙ sym (thousandth_width c.args.id)

pub put_word-a-requires : goal.put_word-a-requires
put_word-a-requires c =
    omega (arith, slice_length c.args.id, ap length (no_millions c.args.id (omega (arith, c.requires.0, c.requires.1))), c.requires.2)

pub put_number_word-b-requires : goal.put_number_word-b-requires
put_number_word-b-requires c =
    let t = thousands (goal.at.put_number_word-b-requires c).After-thousandth-thousands in
    (t, omega (arith, slice_length c.args.id, ap length (no_millions c.args.id (omega (arith, c.requires.0, c.requires.1))), t, c.requires.2))

pub put_digits-requires : goal.put_digits-requires
put_digits-requires c =
    (c.requires.1, omega (arith, slice_length c.args.id, ap length (no_millions c.args.id (omega (arith, c.requires.0, c.requires.1))), thousands (goal.at.put_digits-requires c).After-thousandth-thousands, c.requires.1, c.requires.2))

pub returns : goal.returns
returns c =
    let n = slice_length c.args.id in
    let m = ap length (no_millions c.args.id (omega (arith, c.requires.0, c.requires.1))) in
    let t = thousands (goal.at.returns c).After-thousandth-thousands in
    let p2 = puts_then c.put_word-a.ensures c.put_number_word-b.ensures (omega (arith, n, m, t, c.requires.2)) in
    let p3 = puts_then p2 c.put_digits.ensures (omega (arith, n, m, t, c.requires.1, c.requires.2)) in
    puts_as (slice_path c.args.id) p3 (short_parts c.args.id (omega (arith, c.requires.0, c.requires.1))) (omega (arith, n, m, t, c.requires.1))
