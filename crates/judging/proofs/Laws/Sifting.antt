-- The pieces of one chunk among all, one more at a time. Assumes nothing.
use Prim.Native.Nat.{ℕ, ◌+◌, ◌-◌, ◌%◌, ◌<◌, ◌≤◌}
use native.Mathlib.Omega.{arith}
use native.Mathlib.Decide.{ℕ_discrete}
use mathlib.Core.Path.{◌≡◌, refl, sym, ap, ◌∙◌, subst}
use mathlib.Core.Logic.{◌≢◌}
use mathlib.Core.List.{List}
use Rattle.slices.specs.Limits.{chunk}
use Rattle.plans.specs.Piece.{location_of}
use Rattle.files.specs.File.{part_from, part_end}
use Rattle.judging.specs.Inner.{piece_at, chunk_of, LiesAt, StraysAt, LiesIn, StraysIn, Formed, Sifts}
use Rattle.judging.proofs.Laws.Forms.{Form, form_read}
use Rattle.slices.specs.declared.Record.{Record}
use Rattle.plans.specs.declared.Piece.{Piece}

module _ (from B k : ℕ) (rs : List Record) (plan : List ℕ) where
  -- the pieces of chunk k before i lie where they say
  abbrev pub LieBefore : ℕ → Type 0
  LieBefore i = (j : ℕ) → j < i → chunk_of from (piece_at plan j) ≡ k → LiesIn from B rs (piece_at plan j)

  module _ (i : ℕ) (before : LieBefore i) {p : Piece} (read : p ≡ piece_at plan i) (at : ℕ) (sum : at ≡ from + p.place) where
    sift_next : (chunk_of from (piece_at plan i) ≡ k → LiesIn from B rs (piece_at plan i)) → LieBefore (i + 1)
    sift_next h j l c =
        elim (ℕ_discrete j i) [
          | yes z ↦ rw z (h (rw z at c))
          | no z ↦ before j (omega arith) c
        ]

    -- a piece of another chunk
    pub sift_other : (c : ℕ) → c ≡ chunk_of from p → c ≢ k → LieBefore (i + 1)
    sift_other c e o = sift_next (λ h. absurd (o (e ∙ ap (chunk_of from) read ∙ h)))

    module _ (q end : ℕ) (u : q ≡ at % chunk) (v : end ≡ q + p.len) where
      pub sift_lies : LiesAt B rs q (end - q) (location_of p) → LieBefore (i + 1)
      sift_lies lies = sift_next (λ h. subst (LiesIn from B rs) read (λ j l. rw (← sum, ← u) (lies j (omega arith))))

      strays_whole : StraysAt B rs q (end - q) (location_of p) → StraysIn from B rs p
      strays_whole s =
          let z : q ≡ (from + p.place) % chunk = u ∙ ap (λ (x : ℕ). x % chunk) sum in
          record { at = s.at; inside = omega (arith, s.inside); other = rw z at s.other }

      pub sift_strays : (limit : ℕ) → i < limit → (c : ℕ) → c ≡ chunk_of from p → c ≡ k → StraysAt B rs q (end - q) (location_of p) → Sifts from B k rs plan limit i
      sift_strays limit l c e o s =
          record {
            within = omega arith;
            before = before;
            wrong = λ h. (sym (ap (chunk_of from) read) ∙ sym e ∙ o, subst (StraysIn from B rs) read (strays_whole s));
          }

  pub sift_end : (limit i : ℕ) → limit ≤ i → LieBefore i → Sifts from B k rs plan limit limit
  sift_end limit i h before = record { within = omega arith; before = λ j l. before j (omega arith); wrong = λ l. absurd (omega arith) }

-- a chunk without a byte of the read has no piece
pub sift_nowhere : (first from n B k : ℕ) (rs : List Record) (plan : List ℕ) (limit f e : ℕ) → f ≡ part_from from k → e ≡ part_end (from + n) k → e ≤ f → Formed first from n plan limit
    → Sifts from B k rs plan limit limit
unfolding part_from part_end chunk
sift_nowhere first from n B k rs plan limit f e starts ends none formed =
    record {
      within = omega arith;
      before = λ j l c. absurd (go (form_read first from n plan limit j formed l refl) c);
      wrong = λ l. absurd (omega arith);
    }
  where
    go : {p : Piece} → Form first from n p → chunk_of from p ≡ k → ⊥
    go t c = omega (arith, t.inside, t.some, starts, ends, c)
