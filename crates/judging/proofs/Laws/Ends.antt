-- Plans of no bytes, and plans whose bytes are no whole number of pieces. Assumes nothing.
use Prim.Native.Nat.{ℕ, ◌+◌, ◌*◌, ◌<◌}
use native.Mathlib.Omega.{arith}
use native.Mathlib.Decide.{dec_lt}
use mathlib.Core.Path.{◌≡◌, refl, subst, sym}
use mathlib.Core.Logic.{◌↔◌}
use mathlib.Core.List.{List, [], ◌∷◌}
use lib.ListN.{length}
use Rattle.plans.specs.Location.{Site}
use Rattle.plans.specs.Piece.{piece_size, decode_piece}
use Rattle.judging.specs.Judge.{accepted, piece, verdict, WrongPiece, no_length, outside, WrongInItself, cut_short, whole}
use Rattle.judging.specs.Claims.{Acceptable}
use Rattle.judging.proofs.Laws.Exactly.{rejected_exactly}
use Rattle.plans.specs.declared.Piece.{Piece}

-- ---- a read of no bytes

module _ (f : ℕ → Site) where
  -- a piece is of length 0 or reaches outside
  any_wrong : (p : Piece) → WrongPiece f 0 p
  any_wrong p = go (dec_lt 0 p.len)
    where
      go : Dec (0 < p.len) → WrongPiece f 0 p
      go (yes h) = outside (omega arith)
      go (no h) = no_length (omega arith)

  first_wrong_lem : (plan : List ℕ) → 0 < length plan → WrongInItself f 0 plan 0
  first_wrong_lem plan h = go (dec_lt (length plan) piece_size)
    where
      go : Dec (length plan < piece_size) → WrongInItself f 0 plan 0
      go (yes l) = cut_short (omega arith) (omega arith)
      go (no l) = whole (omega arith) (any_wrong (decode_piece plan (0 * piece_size)))

  only_empty : (plan : List ℕ) → Acceptable f 0 plan → plan ≡ []
  only_empty [] a = refl
  only_empty (b ∷ bs) a = absurd (a.right 0 (first_wrong_lem (b ∷ bs) (omega arith)))

  none_in_empty : (k : ℕ) → WrongInItself f 0 [] k → ⊥
  none_in_empty k (cut_short h l) = omega arith
  none_in_empty k (whole h w) = omega arith

  pub empty_accepted : (plan : List ℕ) → (verdict f 0 plan ≡ accepted) ↔ (plan ≡ [])
  empty_accepted plan = (
    (λ e. only_empty plan ((rejected_exactly f 0 plan).accepts.0 e)),
    (λ e.
        (rejected_exactly f 0 plan).accepts.1
        (subst (Acceptable f 0) (sym e) (record { right = none_in_empty; once = λ i h. absurd (omega arith) }))),
  )

-- ---- bytes left over behind the pieces

pub rest_named : (f : ℕ → Site) (n : ℕ) (plan : List ℕ) (k : ℕ) → k * piece_size < length plan → length plan < k * piece_size + piece_size
    → ((j : ℕ) → j < k → WrongInItself f n plan j → ⊥) → verdict f n plan ≡ piece k
rest_named f n plan k h l before = ((rejected_exactly f n plan).names_piece k).1 (record { wrong = cut_short h l; before = before })
