-- Room to resolve lists in. Assumes nothing.
use Prim.Native.Nat.{ℕ, ◌*◌, ◌<◌, ◌≤◌}
use native.Mathlib.Omega.{arith}
use native.Mathlib.Decide.{dec_lt}
use mathlib.Core.Path.{◌≡◌}
use mathlib.Core.List.{List, [], ◌∷◌}
use lib.ListN.{length, take, drop, length-take, length-drop}
use Rattle.codec.specs.All.{All}
use Rattle.codec.proofs.Laws.All.{all_map}
use Rattle.slices.specs.Accepts.{Accepts}
use Rattle.slices.specs.Limits.{record_size, max_records}
use Rattle.slices.specs.Record.{count}
use Rattle.joined.specs.Lists.{parts}
use Rattle.files.specs.Inner.{Room, Resolvable, Fits}
use Rattle.resolve.specs.declared.room.Room as code

-- room that is as long as before
pub room_kept : {n : ℕ} {marks tops pos ends order spare : List ℕ} → Room n marks tops pos ends order spare → {marks' tops' pos' ends' order' spare' : List ℕ}
    → length marks' ≡ length marks → length tops' ≡ length tops → length pos' ≡ length pos → length ends' ≡ length ends → length order' ≡ length order
    → length spare' ≡ length spare → Room n marks' tops' pos' ends' order' spare'
room_kept r a b c d e f =
    record {
      marks_fit = omega (arith, r.marks_fit);
      tops_fit = omega (arith, r.tops_fit);
      pos_fit = omega (arith, r.pos_fit);
      ends_fit = omega (arith, r.ends_fit);
      order_fit = omega (arith, r.order_fit);
      spare_fit = omega (arith, r.spare_fit);
    }

-- a room of the code is room for as many records as it says
pub room_of : (r : code.Room) → Room r.records r.marks.now r.tops.now r.pos.now r.ends.now r.order.now r.spare.now
room_of r =
    let a = r.segments_fit in
    let b = r.records_fit in
    record { marks_fit = a.1; tops_fit = a.2; pos_fit = b.0; ends_fit = b.1; order_fit = b.2; spare_fit = b.3 }

module _ (n : ℕ) (marks tops pos ends order spare : List ℕ) (r : Room n marks tops pos ends order spare) where
  -- fewer records have room too
  room_fewer : (m : ℕ) → m ≤ n → Room m marks tops pos ends order spare
  room_fewer m h =
      record {
        marks_fit = omega (arith, r.marks_fit);
        tops_fit = omega (arith, r.tops_fit);
        pos_fit = omega (arith, r.pos_fit);
        ends_fit = omega (arith, r.ends_fit);
        order_fit = omega (arith, r.order_fit);
        spare_fit = omega (arith, r.spare_fit);
      }

  -- lists of as many records together
  pub room_together : (ns bs : List ℕ) → length bs ≤ n * record_size → All Accepts (parts ns bs) → All (Resolvable marks tops pos ends order spare) (parts ns bs)
  unfolding parts count
  room_together [] bs h a = tt
  room_together (m ∷ ns) bs h a =
      let t : length (take m bs) ≤ length bs = simp length-take (omega arith) in
      ((a.0, room_fewer (count (take m bs)) (omega arith)), room_together ns (drop m bs) (simp length-drop (omega arith)) a.1)

  -- lists that have each as many at most
  pub room_each : max_records ≤ n → (ls : List (List ℕ)) → All Accepts ls → All (Resolvable marks tops pos ends order spare) ls
  room_each h ls a = all_map Accepts (Resolvable marks tops pos ends order spare) (λ l p. (p, room_fewer (count l) (omega (arith, p.few)))) ls a

-- in a room of the code there is room for each list that fits
pub fits_resolvable : (r : code.Room) (l : List ℕ) → Fits r.records l → Resolvable r.marks.now r.tops.now r.pos.now r.ends.now r.order.now r.spare.now l
fits_resolvable r l f =
    (f.0, room_fewer r.records r.marks.now r.tops.now r.pos.now r.ends.now r.order.now r.spare.now (room_of r) (count l) f.1)

-- and without their room
pub all_accepted : (marks tops pos ends order spare : List ℕ) (ls : List (List ℕ)) → All (Resolvable marks tops pos ends order spare) ls → All Accepts ls
all_accepted marks tops pos ends order spare ls a = all_map (Resolvable marks tops pos ends order spare) Accepts (λ l p. p.0) ls a

-- ---- lists of so many records each

-- lists of as many records together
fits_together : (n : ℕ) (ns bs : List ℕ) → length bs ≤ n * record_size → All Accepts (parts ns bs) → All (Fits n) (parts ns bs)
unfolding parts count
fits_together n [] bs h a = tt
fits_together n (m ∷ ns) bs h a =
    let t : length (take m bs) ≤ length bs = simp length-take (omega arith) in
    ((a.0, omega arith), fits_together n ns (drop m bs) (simp length-drop (omega arith)) a.1)

-- lists that have together as many, where there may be more in each
pub fits_for : (n : ℕ) (ns bs : List ℕ) → (n < max_records → length bs ≤ n * record_size) → All Accepts (parts ns bs) → All (Fits n) (parts ns bs)
fits_for n ns bs h a =
    elim (dec_lt n max_records) [
      | yes f ↦ fits_together n ns bs (h f) a
      | no f ↦ all_map Accepts (Fits n) (λ l p. (p, omega (arith, p.few))) (parts ns bs) a
    ]

pub fits_accepted : (n : ℕ) (ls : List (List ℕ)) → All (Fits n) ls → All Accepts ls
fits_accepted n ls a = all_map (Fits n) Accepts (λ l p. p.0) ls a
