-- From what is found of the pieces to what is said of the plan. Assumes nothing.
use Prim.Native.Nat.{ℕ, ◌+◌, ◌*◌, ◌/◌, ◌<◌, ◌≤◌}
use native.Mathlib.Omega.{arith}
use native.Mathlib.Decide.{dec_lt, ℕ_discrete}
use mathlib.Core.Path.{◌≡◌, sym, ap, ◌∙◌, subst}
use mathlib.Core.Logic.{◌≢◌}
use mathlib.Core.Bool.{true, false, true≢false}
use mathlib.Core.List.{List, [], map}
use lib.ListN.{length, get_or}
use borrow.Author.Tests.{lt-ltb, le-ltb}
use Rattle.codec.specs.All.{All}
use Rattle.codec.proofs.Laws.All.{all_map}
use Rattle.slices.specs.Limits.{chunk}
use Rattle.slices.specs.Record.{records}
use Rattle.coverage.specs.Held.{holders, first_not_once}
use Rattle.coverage.specs.Inner.{Inside}
use Rattle.coverage.proofs.Laws.Held.{in_order_first, first_before, first_other}
use Rattle.plans.specs.Location.{Site}
use Rattle.plans.specs.Piece.{piece_size, pieces_in}
use Rattle.files.specs.File.{site_from}
use Rattle.judging.specs.Judge.{verdict, wrong_piece, WrongInItself, WrongPiece, no_length, outside, cut_short, whole, piece_count}
use Rattle.judging.specs.Claims.{NoneWrong}
use Rattle.judging.specs.Calls.{said}
use Rattle.judging.specs.Inner.{piece_at, chunk_of, LiesIn, Led, WrongFound, said_of}
use Rattle.judging.proofs.Laws.Exactly.{rejected_exactly}
use Rattle.judging.proofs.Laws.Forms.{form}
use Rattle.judging.proofs.Laws.Right.{Right, right_pieces}
use Rattle.judging.proofs.Laws.Sites.{piece_right, piece_strays, piece_misformed}
use Rattle.judging.proofs.Laws.Wrong.{wrong_piece_exactly, wrong_number}
use Rattle.judging.specs.declared.Judged.TheVariants as judged

-- ---- by the number of the first whole piece that is wrong in itself

module _ (f : ℕ → Site) (n : ℕ) (plan : List ℕ) where
  -- w is that number, or as many as there are
  pub record Looked (w : ℕ) : Type 0 where
    pub within : w ≤ length plan / piece_size
    pub right : (i : ℕ) → i < w → wrong_piece f n (piece_at plan i) ≡ false
    pub wrong : w < length plan / piece_size → wrong_piece f n (piece_at plan w) ≡ true

  module _ (w : ℕ) (l : Looked w) where
    before_right : (i : ℕ) → i < w → WrongInItself f n plan i → ⊥
    before_right i h (cut_short a b) = omega (arith, l.within)
    before_right i h (whole a b) = true≢false (sym ((wrong_piece_exactly f n (piece_at plan i)).1 b) ∙ l.right i h)

    pub piece_named : w * piece_size < length plan → judged.WrongPiece w ≡ said (verdict f n plan)
    unfolding said
    piece_named h = sym (ap said (((rejected_exactly f n plan).names_piece w).1 (record { wrong = go (dec_lt w (length plan / piece_size)); before = before_right })))
      where
        go : Dec (w < length plan / piece_size) → WrongInItself f n plan w
        go (yes k) = whole (omega arith) ((wrong_piece_exactly f n (piece_at plan w)).0 (l.wrong k))
        go (no k) = cut_short h (omega arith)

    module _ (h : length plan ≤ w * piece_size) where
      none_wrong : NoneWrong f n plan
      unfolding piece_count
      none_wrong k x =
          let m = wrong_number x in
          before_right k (omega arith) x

      -- so that all pieces lie inside the read
      pub all_inside : All (Inside n) (pieces_in plan)
      all_inside = all_map (Right f n) (Inside n) (λ r a. a.inside) (pieces_in plan) (right_pieces f n plan none_wrong)

      pub accepted_once : ((i : ℕ) → i < n → holders (pieces_in plan) i ≡ 1) → judged.Accepted ≡ said (verdict f n plan)
      unfolding said
      accepted_once once = sym (ap said ((rejected_exactly f n plan).accepts.1 (record { right = none_wrong; once = once })))

      pub place_said : (at : ℕ) → at ≡ first_not_once (pieces_in plan) n → said_of at n ≡ said (verdict f n plan)
      unfolding said_of said
      place_said at e = go (dec_lt at n)
        where
          before : (i : ℕ) → i < at → holders (pieces_in plan) i ≡ 1
          before i m = first_before (pieces_in plan) n i (omega arith)

          go : Dec (at < n) → said_of at n ≡ said (verdict f n plan)
          go (yes k) =
              rw (lt-ltb at n k)
              (sym (ap said (((rejected_exactly f n plan).names_byte at).1 (record { right = none_wrong; inside = k; not_once_lem = rw e (first_other (pieces_in plan) n (omega arith)); before = before }))))
          go (no k) = rw (le-ltb at n (omega arith)) (accepted_once (λ i m. before i (omega arith)))

-- ---- a read without a byte

module _ (f : ℕ → Site) (plan : List ℕ) where
  pub empty_accepted : length plan ≡ 0 → judged.Accepted ≡ said (verdict f 0 plan)
  empty_accepted e =
      accepted_once f 0 plan 0 (record { within = omega arith; right = λ i l. absurd (omega arith); wrong = λ l. absurd (omega arith) }) (omega arith) (λ i l. absurd (omega arith))

  all_wrong : (i : ℕ) → wrong_piece f 0 (piece_at plan i) ≡ true
  all_wrong i = (wrong_piece_exactly f 0 (piece_at plan i)).1 (go (ℕ_discrete (piece_at plan i).len 0))
    where
      go : Dec ((piece_at plan i).len ≡ 0) → WrongPiece f 0 (piece_at plan i)
      go (yes e) = no_length e
      go (no e) = outside (omega (arith, e))

  pub empty_wrong : length plan ≢ 0 → judged.WrongPiece 0 ≡ said (verdict f 0 plan)
  empty_wrong e =
      piece_named f 0 plan 0 (record { within = omega arith; right = λ i l. absurd (omega arith); wrong = λ l. all_wrong 0 }) (omega (arith, e))

-- ---- what is found in the lists

module _ (first from n B : ℕ) (ls : List (List ℕ)) (plan : List ℕ) where
  abbrev site : ℕ → Site
  site = site_from first B (map records ls) from

  -- pieces in order
  pub led_said : (number place : ℕ) → Led first from n B ls plan number place → number * piece_size ≡ length plan → said_of place n ≡ said (verdict site n plan)
  led_said number place h all =
      place_said site n plan number
      (record { within = h.within; right = right; wrong = λ l. absurd (omega arith) })
      (omega arith)
      place
      (in_order_first plan n place (rw counted h.order) h.inside)
    where
      counted : length plan / piece_size ≡ number
      counted = omega arith

      right : (i : ℕ) → i < number → wrong_piece site n (piece_at plan i) ≡ false
      right i l =
          let r = h.right i l in
          let x = r.2 in
          piece_right first from n B ls (piece_at plan i) x.form (subst (λ (k : ℕ). LiesIn from B (records (get_or ls k [])) (piece_at plan i)) (sym x.here) x.lies)

  -- pieces in any order
  module _ (fits : from + n ≤ length ls * chunk) (r : ℕ) (h : WrongFound first from n B ls plan r) where
    chunk_within : (i : ℕ) → i < h.limit → chunk_of from (piece_at plan i) < length ls
    unfolding chunk
    chunk_within i l =
        let t = form first from n (piece_at plan i) (h.form i l) in
        omega (arith, t.inside, t.some)

    pub found_looked : Looked site n plan r
    found_looked =
        record {
          within = omega (arith, h.within, h.sifted.within);
          right = λ i l. piece_right first from n B ls (piece_at plan i) (h.form i (omega (arith, h.sifted.within)))
              (h.sifted.before i l (chunk_within i (omega (arith, h.sifted.within))));
          wrong = λ l. go l (dec_lt r h.limit);
        }
      where
        go : r < length plan / piece_size → Dec (r < h.limit) → wrong_piece site n (piece_at plan r) ≡ true
        go l (yes k) = piece_strays first from n B ls (piece_at plan r) (h.form r k) (h.sifted.wrong k).1
        go l (no k) =
            let e : h.limit ≡ r = omega (arith, h.sifted.within) in
            piece_misformed first from n B ls (piece_at plan r) (rw e at (h.next (omega arith)))
