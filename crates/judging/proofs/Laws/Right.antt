-- Pieces that are not wrong in themselves. Assumes nothing.
use Prim.Native.Nat.{ℕ, ◌+◌, ◌*◌, ◌/◌, ◌<◌}
use native.Mathlib.Omega.{arith}
use mathlib.Core.Path.{◌≡◌, refl}
use mathlib.Core.Logic.{◌≢◌, inl, inr}
use mathlib.Core.List.{List}
use lib.ListN.{length}
use Rattle.codec.specs.All.{All}
use Rattle.codec.specs.Groups.{groups}
use Rattle.codec.proofs.Laws.Groups.{groups_all}
use Rattle.runs.specs.Runs.{Run}
use Rattle.plans.specs.Location.{Site, onward}
use Rattle.plans.specs.Piece.{piece_size, piece_of, decode_piece, location_of, run_of, decode_run, pieces_in}
use Rattle.coverage.specs.Inner.{Inside}
use Rattle.judging.specs.Claims.{NoneWrong}
use Rattle.judging.specs.Judge.{site_of, WrongPiece, no_length, unknown_mark_lem, outside, number_set_lem, elsewhere, whole, same_site}
use Rattle.judging.proofs.Laws.Tells.{tells_stable}
use Rattle.judging.proofs.Laws.Wrong.{same_site_is}
use Rattle.plans.specs.declared.Location.{Location}
use Rattle.plans.specs.declared.Location.TheVariants.{Hole, In}
use Rattle.plans.specs.declared.Piece.{Piece}

-- the site k bytes on in one run
abbrev pub onward_site : Site → ℕ → Site
onward_site s k = record { index = s.index; location = onward s.location k }

-- of a read of n bytes, where byte i lies at f i: a piece lies inside it, and each of its bytes where it says
pub record Right (f : ℕ → Site) (n : ℕ) (r : Run Site) : Type 0 where
  pub inside : Inside n r
  pub sites : (j : ℕ) → j < r.len → onward_site r.first j ≡ f (r.start + j)

module _ (f : ℕ → Site) (n : ℕ) where
  -- ---- a piece that is read

  right_piece : (p : Piece) → (WrongPiece f n p → ⊥) → Right f n (run_of p)
  unfolding run_of site_of
  right_piece p h =
      let some : p.len ≢ 0 = λ e. h (no_length e) in
      let within : n < p.place + p.len → ⊥ = λ l. h (outside l) in
      record {
        inside = record { some = omega (arith, some); within = omega (arith, within) };
        sites = λ j l. tells_stable (same_site (site_of p j) (f (p.place + j))) (same_site_is (site_of p j) (f (p.place + j))) (λ s. h (elsewhere j l s));
      }

  pub right_pieces : (plan : List ℕ) → NoneWrong f n plan → All (Right f n) (pieces_in plan)
  unfolding pieces_in groups decode_run
  right_pieces plan h =
      groups_all decode_run piece_size (Right f n) plan 0 (length plan / piece_size)
      (λ j a b. right_piece (decode_piece plan (j * piece_size)) (λ w. h j (whole (omega arith) w)))

  -- ---- a piece that is written

  pub right_not_wrong : (index from len : ℕ) (a : Location) → Right f n (record { start = from; len = len; first = record { index = index; location = a } })
      → WrongPiece f n (piece_of index from len a) → ⊥
  unfolding piece_of site_of location_of
  right_not_wrong index from len Hole r (no_length e) = omega (arith, r.inside.some)
  right_not_wrong index from len Hole r (unknown_mark_lem a b) = b refl
  right_not_wrong index from len Hole r (outside l) = omega (arith, r.inside.within)
  right_not_wrong index from len Hole r (number_set_lem m (inl s)) = s refl
  right_not_wrong index from len Hole r (number_set_lem m (inr (inl s))) = s refl
  right_not_wrong index from len Hole r (number_set_lem m (inr (inr (inl s)))) = s refl
  right_not_wrong index from len Hole r (number_set_lem m (inr (inr (inr s)))) = s refl
  right_not_wrong index from len Hole r (elsewhere j l s) = s (r.sites j l)
  right_not_wrong index from len (In i b m t) r (no_length e) = omega (arith, r.inside.some)
  right_not_wrong index from len (In i b m t) r (unknown_mark_lem a c) = a refl
  right_not_wrong index from len (In i b m t) r (outside l) = omega (arith, r.inside.within)
  right_not_wrong index from len (In i b m t) r (number_set_lem e s) = omega arith
  right_not_wrong index from len (In i b m t) r (elsewhere j l s) = s (r.sites j l)
