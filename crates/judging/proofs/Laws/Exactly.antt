-- What is said of a plan, exactly: accepted, its first piece that is wrong in itself, or its first byte missing or doubled. Assumes nothing.
use Prim.Native.Nat.{ℕ, ◌≤◌}
use native.Mathlib.Omega.{arith}
use mathlib.Core.Path.{◌≡◌, refl, ◌∙◌, subst}
use mathlib.Core.Bool.{Bool, true, false, cond}
use mathlib.Core.List.{List}
use lib.Dec.{ltb}
use borrow.Author.Tests.{ltb-true, ltb-false, lt-ltb, le-ltb}
use Rattle.runs.specs.Runs.{Run}
use Rattle.plans.specs.Location.{Site}
use Rattle.plans.specs.Piece.{pieces_in}
use Rattle.coverage.specs.Held.{first_not_once}
use Rattle.coverage.proofs.Laws.Held as held
use Rattle.judging.specs.Judge.{Verdict, accepted, piece, byte, verdict, piece_count, first_wrong}
use Rattle.judging.specs.Claims.{NoneWrong, Acceptable, FirstWrong, FirstByte, Exactly}
use Rattle.judging.proofs.Laws.First.{not_before, holds_first, first_is, none_is}
use Rattle.judging.proofs.Laws.Wrong.{wrong_exactly, wrong_number}

module _ (f : ℕ → Site) (n : ℕ) (plan : List ℕ) where
  abbrev rs : List (Run Site)
  rs = pieces_in plan

  -- ---- each verdict means what it says

  abbrev Means : Verdict → Type 0
  Means accepted = Acceptable f n plan
  Means (piece k) = FirstWrong f n plan k
  Means (byte i) = FirstByte f n plan i

  none_wrong : piece_count plan ≤ first_wrong f n plan → NoneWrong f n plan
  unfolding first_wrong
  none_wrong h k w =
      let l = wrong_number w in
      not_before (wrong_exactly f n plan) k l (omega arith) w

  means : Means (verdict f n plan)
  unfolding verdict first_wrong
  means = go (ltb (first_wrong f n plan) (piece_count plan)) refl (ltb (first_not_once rs n) n) refl
    where
      go : (t : Bool) → ltb (first_wrong f n plan) (piece_count plan) ≡ t → (u : Bool) → ltb (first_not_once rs n) n ≡ u
          → Means (cond t (piece (first_wrong f n plan)) (cond u (byte (first_not_once rs n)) accepted))
      go true e u g =
          let l = ltb-true (first_wrong f n plan) (piece_count plan) e in
          record {
            wrong = holds_first (wrong_exactly f n plan) l;
            before = λ j h. not_before (wrong_exactly f n plan) j (omega arith) h;
          }
      go false e true g =
          let l = ltb-true (first_not_once rs n) n g in
          record {
            right = none_wrong (ltb-false _ _ e);
            inside = l;
            not_once_lem = held.first_other rs n l;
            before = held.first_before rs n;
          }
      go false e false g =
          let l = ltb-false (first_not_once rs n) n g in
          record { right = none_wrong (ltb-false _ _ e); once = λ i h. held.first_before rs n i (omega arith) }

  -- ---- and is said wherever that holds

  piece_said : (k : ℕ) → FirstWrong f n plan k → verdict f n plan ≡ piece k
  unfolding verdict first_wrong
  piece_said k w =
      let l = wrong_number w.wrong in
      let e = first_is (wrong_exactly f n plan) k l w.wrong w.before in
      rw (e, lt-ltb k (piece_count plan) l)

  module _ (right : NoneWrong f n plan) where
    byte_decides : verdict f n plan ≡ cond (ltb (first_not_once rs n) n) (byte (first_not_once rs n)) accepted
    unfolding verdict first_wrong
    byte_decides =
        let e = none_is (wrong_exactly f n plan) (λ j l. right j) in
        rw (e, le-ltb (piece_count plan) (piece_count plan) (omega arith))

  byte_said : (i : ℕ) → FirstByte f n plan i → verdict f n plan ≡ byte i
  byte_said i b =
      let e = held.first_is rs n i (omega (arith, b.inside)) b.before (λ l. b.not_once_lem) in
      byte_decides b.right ∙ rw (e, lt-ltb i n b.inside)

  accepted_said : Acceptable f n plan → verdict f n plan ≡ accepted
  accepted_said a =
      let e = held.first_none rs n a.once in
      byte_decides a.right ∙ rw (e, le-ltb n n (omega arith))

  pub rejected_exactly : Exactly f n plan
  rejected_exactly =
      record {
        accepts = (λ e. subst Means e means, accepted_said);
        names_piece = λ k. (λ e. subst Means e means, piece_said k);
        names_byte = λ i. (λ e. subst Means e means, byte_said i);
      }
