-- A segment that is found in a view says where the byte at the position comes from. Assumes nothing.
use Prim.Native.Nat.{ℕ, zero, suc, ◌<◌}
use native.Mathlib.Omega.{arith}
use mathlib.Core.Path.{◌≡◌, refl, ◌∙◌}
use mathlib.Core.Bool.{Bool, true, false, cond}
use mathlib.Core.List.{List, [], ◌∷◌}
use lib.ListN.{length, get_or}
use Rattle.codec.specs.All.{All}
use Rattle.slices.specs.Cover.{covers, cover}
use Rattle.slices.specs.Passes.{Passes}
use Rattle.slices.specs.declared.Record.{Record}
use Rattle.views.specs.View.{view, says_at, source_in}
use Rattle.views.proofs.Laws.ViewSource.{view_source}
use Rattle.seeking.specs.Seek.{no_segment}
use Rattle.seeking.specs.Claims.{TheOne}
use Rattle.seeking.specs.declared.Found.{Found}
use Rattle.std.specs.Prelude.{Option}

-- the only record that holds a position gives its source
source_only : (vs : List Record) (p k : ℕ) → k < length vs → covers (get_or vs k no_segment) p ≡ true
    → ((j : ℕ) → j < length vs → covers (get_or vs j no_segment) p ≡ true → j ≡ k) → says_at (get_or vs k no_segment) p ≡ source_in vs p
unfolding source_in
source_only [] p k h c only = absurd (omega arith)
source_only (v ∷ vs) p zero h c only = rw c
source_only (v ∷ vs) p (suc k) h c only =
    go (covers v p) refl (source_only vs p k (omega arith) c (λ j b e. let s = only (suc j) (omega arith) e in omega arith))
  where
    go : (t : Bool) → covers v p ≡ t → says_at (get_or vs k no_segment) p ≡ source_in vs p → says_at (get_or vs k no_segment) p ≡ cond t (says_at v p) (source_in vs p)
    go true e ih = absurd (let s = only 0 (omega arith) e in omega arith)
    go false e ih = ih

pub found_source : (rs : List Record) → All Passes rs → (l : ℕ) (row : ℕ → Record) → ((i : ℕ) → i < length (view rs l) → row i ≡ get_or (view rs l) i no_segment)
    → (p : ℕ) → p < l → (f : Option Found) (t : TheOne row (length (view rs l)) p f) → says_at (row t.number) p ≡ cover rs p
found_source rs pass l row same p h f t =
    let k = t.number in
    let w = t.holds.within in
    let e = same k w in
    rw e (source_only (view rs l) p k w (rw e at t.holds.held) (λ j b c. t.only j b (rw (same j b) c)))
    ∙ view_source rs pass l p h
