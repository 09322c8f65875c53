-- `codec::pairs::put_four` meets its contract: two pairs, one behind the other. Assumes nothing.
use Rattle.codec.proofs.Laws.Splice.{splices_2}
use native.Mathlib.Omega.{arith}
use Prim.Native.Nat.{ℕ, ◌+◌, ◌-◌, ◌*◌, ◌/◌, ◌%◌}
use mathlib.Core.Path.{◌≡◌, refl, ap, ◌∙◌}
use Rattle.codec.specs.Pairs.{pair}
use Rattle.codec.specs.Splice.{splice}
use Rattle.codec.proofs.pairs.put_four.Goals as goal

pub returns : goal.returns
returns c =
    let a = c.args in
    let e : a.n - a.n / 100 * 100 ≡ a.n % 100 = omega arith in
    splices_2 a.out.now a.at (pair (a.n / 100)) (pair (a.n % 100)) 2 refl (omega (arith, c.requires.1)) c.put_pair.ensures (c.put_pair-2.ensures ∙ ap (λ (m : ℕ). splice c.put_pair.new.out (a.at + 2) (pair m)) e)
