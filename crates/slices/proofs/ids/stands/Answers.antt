-- `slices::ids::stands` meets its contract: the id stands in the list if it is that of some record. Assumes nothing.
use Rattle.std.proofs.Common.{rules}
use Rattle.std.proofs.lemmas.Iterator.{YieldsList-from_range}
use Rattle.std.proofs.lemmas.Iterator.Search.{any_from_yields_List}
use borrow.Author.Tests.{tests}
use mathlib.Core.Path.{◌≡◌, refl, ◌∙◌}
use native.Mathlib.Omega.{arith}
use Prim.Native.Nat.{◌-◌, ◌/◌}
use lib.ListN.{length}
use Rattle.slices.specs.Limits.{record_size}
use lib.Dec.{eqb}
use Rattle.slices.specs.Record.{record_at, records, count}
use Rattle.slices.proofs.Laws.Left.{stands_any}
use Rattle.slices.proofs.ids.stands.Goals as goal

pub returns : goal.returns
unfolding records count
returns c =
    let a = c.args in
    let n = length a.list.now / record_size in
    let e : n - 0 ≡ n = omega arith in
    any_from_yields_List (λ i. eqb (record_at a.list.now i).id a.id) _ _ _ c.any.ensures.ran (YieldsList-from_range 0 n n refl e) (λ x b q k. search (rules, tests))
    ∙ stands_any a.list.now a.id 0 n
