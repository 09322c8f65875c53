-- In the segments of a view every position below its end is found, and no other. Assumes nothing.
use Prim.Native.Nat.{ℕ, suc, ◌+◌, ◌-◌, ◌<◌, ◌≤◌, zero-le}
use native.Mathlib.Omega.{arith}
use native.Mathlib.Nat.{le_refl}
use native.Mathlib.Decide.{ℕ_discrete, dec_lt}
use mathlib.Core.Path.{◌≡◌, refl, sym, ap}
use mathlib.Core.Bool.{true}
use mathlib.Core.List.{List}
use lib.ListN.{length, get_or}
use Rattle.slices.specs.Cover.{covers}
use Rattle.slices.proofs.Laws.Cover.{covers_in, covers_after, covers_range}
use Rattle.slices.specs.declared.Record.{Record}
use Rattle.views.specs.View.{view}
use Rattle.seeking.specs.Seek.{numbered, halve, if_held, seek, no_segment}
use Rattle.seeking.specs.Claims.{TheOne, Finds}
use Rattle.std.specs.Prelude.{Some, None}
use Rattle.seeking.proofs.Laws.Halve.{Ends, halve_ends, halve_below}
use Rattle.seeking.proofs.Laws.Seek.{seek_none, seek_tested}
use Rattle.seeking.proofs.Laws.Edges.{Divides, edges_rise, view_edges}

module _ (row : ℕ → Record) (n l : ℕ) (d : Divides row n l) (p : ℕ) where
  -- where halving ends
  abbrev end : ℕ
  end = halve (λ (i : ℕ). (row i).pos) p n 0 n

  -- it ends at a segment that starts at p or before it, and the next edge is behind p
  at_end : 0 < n → p < l → Ends (λ m. d.edge m ≤ p) (λ m. p < d.edge m) n end
  at_end h k =
      halve_ends (λ (i : ℕ). (row i).pos) p n (λ m. d.edge m ≤ p) (λ m. p < d.edge m) (λ m a b. rw (← d.from m a) b) (λ m a b. rw (← d.from m a) b)
      n 0 n h (omega arith) (le_refl n) (rw d.starts zero-le) (rw d.ends k)

  some : p < l → 0 < n
  some k = go (ℕ_discrete n 0)
    where
      go : Dec (n ≡ 0) → 0 < n
      go (yes e) = absurd (omega (arith, d.starts, d.ends, ap d.edge e))
      go (no e) = omega arith

  -- segments that hold one position are one
  only : (i j : ℕ) → i < n → j < n → covers (row i) p ≡ true → covers (row j) p ≡ true → i ≤ j
  only i j a b h k = go (dec_lt j i)
    where
      go : Dec (j < i) → i ≤ j
      go (yes o) =
          let e : suc j + (i - suc j) ≡ i = omega arith in
          let up = rw e at (edges_rise row n l d (suc j) (i - suc j) (omega arith)) in
          absurd (omega (arith, up, d.from i a, d.to j b, covers_range (row i) p h, covers_range (row j) p k))
      go (no o) = omega arith

  divided_finds : p < l → TheOne row n p (seek row n p)
  unfolding if_held
  divided_finds k =
      let s = some k in
      let e = at_end s k in
      let c = covers_in (row end) p (omega (arith, d.from end e.below, e.here)) (omega (arith, d.to end e.below, e.next)) in
      record {
        number = end;
        found = sym (seek_tested row n p (λ z. omega arith) end (row end) (Some (numbered end (row end))) refl refl (held c));
        holds = record { within = e.below; same = refl; held = c };
        only = λ j b h. let x = only j end b e.below h c in let y = only end j e.below b c h in omega arith;
      }
    where
      held : covers (row end) p ≡ true → Some (numbered end (row end)) ≡ if_held p end (row end)
      held c = rw c

  divided_none : l ≤ p → seek row n p ≡ None
  unfolding if_held
  divided_none k = go (ℕ_discrete n 0)
    where
      before : end < n → (row end).pos + (row end).len ≤ p
      before b =
          let e : suc end + (n - suc end) ≡ n = omega arith in
          let up = rw e at (edges_rise row n l d (suc end) (n - suc end) (omega arith)) in
          omega (arith, up, d.to end b, d.ends)

      past : end < n → None ≡ if_held p end (row end)
      past b = rw (covers_after (row end) p (before b))

      go : Dec (n ≡ 0) → seek row n p ≡ None
      go (yes z) = sym (seek_none row n p z)
      go (no z) = sym (seek_tested row n p z end (row end) None refl refl (past (halve_below (λ (i : ℕ). (row i).pos) p n (omega arith))))

-- a row whose first n elements are a view's
pub loaded_finds : (rs : List Record) (l : ℕ) (row : ℕ → Record) → ((i : ℕ) → i < length (view rs l) → row i ≡ get_or (view rs l) i no_segment)
    → Finds row (length (view rs l)) l (seek row (length (view rs l)))
loaded_finds rs l row same =
    let d = view_edges rs l row same in
    let n = length (view rs l) in
    record { below = λ p k. divided_finds row n l d p k; beyond = λ p k. divided_none row n l d p k }
