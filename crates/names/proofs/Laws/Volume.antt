-- Laws of volume names: where one ends in a text, and which texts are one. Assumes nothing.
use mathlib.Core.Path.{◌≡◌, refl, sym, ap, ◌∙◌}
use mathlib.Core.Bool.{Bool, true, false, cond, ◌&&◌, ◌||◌, and-eq-true_iff}
use mathlib.Core.List.{List, [], ◌∷◌, ◌++◌}
use Prim.Native.Nat.{ℕ, suc, ◌+◌, ◌≤◌, ◌<◌, min}
use native.Mathlib.Omega.{arith}
use borrow.Author.Tests.{le-leb, lt-leb, leb-true}
use lib.Dec.{leb, eqb, eqb-suc-suc, eqb-zero-suc}
use lib.ListN.{length, take, drop, get_or}
use lib.Seq.{drop-cons}
use Rattle.std.specs.Prelude.{Ok, Err}
use Rattle.names.specs.Limits.{max_volume}
use Rattle.names.specs.Volume.{volume_byte, volume_bytes, volume_allowed, volume_run, volume_at}

-- what a run of volume bytes gives
pub volume_short : (text : List ℕ) → volume_run text < 1 → Err 0 ≡ volume_at text
volume_short text h = let e : min (volume_run text) max_volume ≡ 0 = omega arith in simp (lt-leb 1 (volume_run text) h, e)

pub volume_long : (text : List ℕ) → max_volume < volume_run text → Err max_volume ≡ volume_at text
volume_long text h = let e : min (volume_run text) max_volume ≡ max_volume = omega arith in simp (le-leb 1 (volume_run text) (omega arith), lt-leb (volume_run text) max_volume h, e)

pub volume_right : (text : List ℕ) → 1 ≤ volume_run text → volume_run text ≤ max_volume → Ok (volume_run text) ≡ volume_at text
volume_right text h k = simp (le-leb 1 (volume_run text) h, le-leb (volume_run text) max_volume k)

-- the volume name ends at the first byte that is none of its kind
pub run_writes : (volume rest : List ℕ) → volume_bytes volume ≡ true → volume_run (volume ++ 47 ∷ rest) ≡ length volume
unfolding volume_run volume_bytes
run_writes [] rest w = refl
run_writes (b ∷ volume) rest w =
    let a = (and-eq-true_iff (volume_byte b) (volume_bytes volume)).0 w in
    rw a.0 (ap suc (run_writes volume rest a.1))

pub run_reads : (text : List ℕ) → (volume_bytes (take (volume_run text) text) ≡ true) × (length (take (volume_run text) text) ≡ volume_run text)
unfolding volume_run volume_bytes
run_reads [] = (refl, refl)
run_reads (b ∷ text) = go (run_reads text) (volume_byte b) refl
  where
    go : (volume_bytes (take (volume_run text) text) ≡ true) × (length (take (volume_run text) text) ≡ volume_run text) → (t : Bool) → volume_byte b ≡ t
        → (volume_bytes (take (cond t (suc (volume_run text)) 0) (b ∷ text)) ≡ true) × (length (take (cond t (suc (volume_run text)) 0) (b ∷ text)) ≡ cond t (suc (volume_run text)) 0)
    go ih true e = (rw e ih.0, ap suc ih.1)
    go ih false e = (refl, refl)

-- all of a text is volume bytes where their run is as long as the text
pub run_all : (volume : List ℕ) → volume_bytes volume ≡ eqb (volume_run volume) (length volume)
unfolding volume_run volume_bytes
run_all [] = refl
run_all (b ∷ volume) = go (run_all volume) (volume_byte b) refl
  where
    go : volume_bytes volume ≡ eqb (volume_run volume) (length volume) → (t : Bool) → volume_byte b ≡ t
        → volume_byte b && volume_bytes volume ≡ eqb (cond (volume_byte b) (suc (volume_run volume)) 0) (suc (length volume))
    go ih true e = rw e (ih ∙ sym (eqb-suc-suc (volume_run volume) (length volume)))
    go ih false e = rw e (sym (eqb-zero-suc (length volume)))

-- a test without a second half
pub or_none : (t : Bool) → t ≡ t || false
or_none true = refl
or_none false = refl

-- one byte more of a run
module _ (text : List ℕ) (i : ℕ) (h : i < length text) where
  pub run_stops : volume_byte (get_or text i 0) ≡ false → i + volume_run (drop i text) ≡ i
  unfolding volume_run
  run_stops e = rw (drop-cons text i 0 h, e) (omega arith)

  pub run_goes : volume_byte (get_or text i 0) ≡ true → i + volume_run (drop i text) ≡ suc i + volume_run (drop (suc i) text)
  unfolding volume_run
  run_goes e = rw (drop-cons text i 0 h, e) (omega arith)

-- what a volume name is
pub record Right (volume : List ℕ) : Type 0 where
  pub some : 1 ≤ length volume
  pub most : length volume ≤ max_volume
  pub bytes : volume_bytes volume ≡ true

pub right : (volume : List ℕ) → volume_allowed volume ≡ true → Right volume
unfolding volume_allowed
right volume v =
    let a = (and-eq-true_iff (leb 1 (length volume) && leb (length volume) max_volume) (volume_bytes volume)).0 v in
    let b = (and-eq-true_iff (leb 1 (length volume)) (leb (length volume) max_volume)).0 a.0 in
    record { some = leb-true _ _ b.0; most = leb-true _ _ b.1; bytes = a.1 }
