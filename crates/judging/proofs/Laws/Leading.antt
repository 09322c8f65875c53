-- Pieces that stand in order, one more at a time. Assumes nothing.
use Prim.Native.Nat.{ℕ, suc, ◌+◌, ◌-◌, ◌/◌, ◌%◌, ◌<◌, ◌≤◌}
use native.Mathlib.Omega.{arith}
use native.Mathlib.Decide.{ℕ_discrete}
use native.Mathlib.Numerals.{add-one}
use mathlib.Core.Path.{◌≡◌, sym, ap, ◌∙◌, subst}
use mathlib.Core.Bool.{true}
use mathlib.Core.List.{List}
use lib.ListN.{length}
use Rattle.slices.specs.Limits.{chunk}
use Rattle.coverage.specs.Inner.{InOrder}
use Rattle.plans.specs.Piece.{piece_size, location_of, run_of, decode_run}
use Rattle.judging.specs.Inner.{piece_at, formed, chunk_of, LiesAt, LiesIn, RightIn, Leads}
use Rattle.judging.proofs.Laws.Forms.{form}
use Rattle.slices.specs.declared.Record.{Record}
use Rattle.plans.specs.declared.Piece.{Piece}

-- one piece behind those that stand in order
in_order_more : (plan : List ℕ) (k place : ℕ) {p : Piece} → p ≡ piece_at plan k → p.place ≡ place → InOrder plan k place → InOrder plan (suc k) (place + p.len)
unfolding decode_run run_of
in_order_more plan k place {p} read at h =
    let e : (piece_at plan k).place ≡ place = sym (ap (λ (x : Piece). x.place) read) ∙ at in
    let l : (piece_at plan k).len ≡ p.len = sym (ap (λ (x : Piece). x.len) read) in
    (rw (e, l), rw e h)

-- where the next piece lies, by its own numbers
module _ (first from n place : ℕ) (p : Piece) (f : formed first from n p ≡ true) (at : p.place ≡ place) where
  pub next_fits : (from + place) % chunk + p.len ≤ chunk
  next_fits = rw at at (form first from n p f).fits

  pub next_some : 0 < p.len
  next_some = (form first from n p f).some

  pub next_inside : place + p.len ≤ n
  next_inside = omega (arith, (form first from n p f).inside, at)

module _ (first from n B k : ℕ) (rs : List Record) (plan : List ℕ) (start : ℕ) where
  pub leads_start : (place : ℕ) → start ≤ length plan / piece_size → place ≤ n → InOrder plan start place → Leads first from n B k rs plan start start place
  leads_start place w i o = record { on = omega arith; within = w; inside = i; order = o; right = λ j a b. absurd (omega arith) }

  module _ (number place : ℕ) {p : Piece} (read : p ≡ piece_at plan number) (f : formed first from n p ≡ true) (at : p.place ≡ place)
      (h : Leads first from n B k rs plan start number place) (l : number < length plan / piece_size) (here : chunk_of from p ≡ k) where
    next_right : LiesIn from B rs p → RightIn first from n B k rs (piece_at plan number)
    next_right lies = subst (RightIn first from n B k rs) read (record { form = f; here = here; lies = lies })

    -- it stands in order too
    pub leads_more : (q e : ℕ) → q ≡ (from + place) % chunk → e ≡ q + p.len → LiesAt B rs q (e - q) (location_of p)
        → Leads first from n B k rs plan start (number + 1) (place + p.len)
    leads_more q e u v lies =
        rw add-one
        (record {
          on = omega (arith, h.on);
          within = omega arith;
          inside = next_inside first from n place p f at;
          order = in_order_more plan number place read at h.order;
          right = go;
        })
      where
        whole : LiesIn from B rs p
        whole j i =
            let z : (from + p.place) % chunk ≡ q = ap (λ (x : ℕ). (from + x) % chunk) at ∙ sym u in
            rw z (lies j (omega arith))

        go : (i : ℕ) → start ≤ i → i < suc number → RightIn first from n B k rs (piece_at plan i)
        go i a b =
            elim (ℕ_discrete i number) [
              | yes z ↦ rw z (next_right whole)
              | no z ↦ h.right i a (omega arith)
            ]
