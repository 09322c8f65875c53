-- Laws of a slice as it stands in names: the digits that its quotients share with it, and where they are put. Assumes nothing.
use Prim.Native.Nat.{ℕ, ◌+◌, ◌-◌, ◌*◌, ◌/◌, ◌%◌, ◌<◌, ◌≤◌}
use native.Mathlib.Omega.{arith}
use native.Mathlib.Decide.{dec_lt}
use mathlib.Core.Path.{◌≡◌, refl, sym, ap, ◌∙◌}
use mathlib.Core.List.{List, [], ◌∷◌, ◌++◌, append_assoc}
use lib.ListN.{length, take, drop, set, length-append}
use lib.Seq.{set-append_seam, length-take-le}
use Rattle.codec.specs.Decimal.{decimal}
use Rattle.codec.specs.Pairs.{pair, four}
use Rattle.codec.specs.Splice.{splice}
use Rattle.codec.specs.Inner.{Puts}
use Rattle.texts.specs.Words.{slash}
use Rattle.names.specs.Inner.{slice_path}
use Rattle.codec.proofs.Laws.Decimal.{tenfold, length-within, decimal_digit, decimal_more}
use Rattle.codec.proofs.Laws.Pairs.{decimal_pairs, decimal_fours}
use Rattle.codec.proofs.Laws.Splice.{length-splice, splice_one, splice_then, splice_before, splices_2}
use Rattle.codec.proofs.Laws.Thrice.{splice_swap, thrice}
use Rattle.codec.proofs.Laws.Width.{thousandth_width, length_beyond}
use Rattle.names.proofs.Laws.Length.{millionth_width, slice_length}

-- ---- digits

-- more than six digits are those of a million and more
million : (id : ℕ) → 6 < length (decimal id) → 999999 < id
unfolding tenfold
million id h = go (dec_lt id 1000000)
  where
    go : Dec (id < 1000000) → 999999 < id
    go (yes l) = absurd (omega (arith, length-within id 5 (omega arith)))
    go (no l) = omega arith

-- at most six are those of less, whose millions are 0
pub no_millions : (id : ℕ) → length (decimal id) ≤ 6 → decimal (id / 1000 / 1000) ≡ 48 ∷ []
unfolding tenfold
no_millions id h = go (dec_lt id 1000000)
  where
    go : Dec (id < 1000000) → decimal (id / 1000 / 1000) ≡ 48 ∷ []
    go (yes l) = let z : id / 1000 / 1000 ≡ 0 = omega arith in ap decimal z ∙ decimal_digit 0 (omega arith)
    go (no l) = absurd (omega (arith, length_beyond id 6 (omega arith)))

-- such a slice by the parts that the code puts
pub short_parts : (id : ℕ) → length (decimal id) ≤ 6 → ((48 ∷ slash) ++ (decimal (id / 1000) ++ slash)) ++ decimal id ≡ slice_path id
unfolding slice_path
short_parts id h = rw (no_millions id h) (simp append_assoc)

module _ (id tail : ℕ) (h : 999999 < id) (t : tail ≡ id - id / 1000000 * 1000000) where
  hundreds : decimal (id / 10000) ≡ decimal (id / 1000000) ++ pair (tail / 10000)
  hundreds =
      let a : id / 10000 / 100 ≡ id / 1000000 = omega arith in
      let b : id / 10000 % 100 ≡ tail / 10000 = omega arith in
      decimal_pairs (id / 10000) (omega arith) ∙ (λ i. decimal (a i) ++ pair (b i))

  -- the millions, and six digits more
  id_digits : decimal id ≡ decimal (id / 1000000) ++ (pair (tail / 10000) ++ four (tail % 10000))
  id_digits =
      let a : id % 10000 ≡ tail % 10000 = omega arith in
      decimal_fours id (omega arith)
      ∙ (λ i. hundreds i ++ four (a i))
      ∙ append_assoc (decimal (id / 1000000)) (pair (tail / 10000)) (four (tail % 10000))

  -- the millions, and the first three of them
  thousands_digits : decimal (id / 1000) ++ ((48 + tail / 100 % 100 % 10) ∷ []) ≡ decimal (id / 1000000) ++ four (tail / 100)
  thousands_digits =
      let a : id / 1000 / 10 ≡ id / 10000 = omega arith in
      let b : id / 1000 % 10 ≡ tail / 100 % 100 / 10 = omega arith in
      let c : tail / 10000 ≡ tail / 100 / 100 = omega arith in
      let e : decimal (id / 1000) ≡ (decimal (id / 1000000) ++ pair (tail / 100 / 100)) ++ ((48 + tail / 100 % 100 / 10) ∷ []) =
      decimal_more (id / 1000) (omega arith) ∙ (λ i. (ap decimal a ∙ hundreds ∙ ap (λ (m : ℕ). decimal (id / 1000000) ++ pair m) c) i ++ ((48 + b i) ∷ [])) in
      ap (λ (l : List ℕ). l ++ ((48 + tail / 100 % 100 % 10) ∷ [])) e ∙ simp append_assoc

-- ---- places

-- the last byte of what was put, stored anew
set_last : (out : List ℕ) (at place : ℕ) (a : List ℕ) (u v : ℕ) → place ≡ at + length a → at ≤ length out
    → set (splice out at (a ++ (u ∷ []))) place v ≡ splice out at (a ++ (v ∷ []))
unfolding splice
set_last out at place a u v e h =
    let n : ℕ = at + length (a ++ (u ∷ [])) in
    let n' : at + length (a ++ (v ∷ [])) ≡ n = simp length-append in
    let l : place ≡ length (take at out ++ a) = simp length-append (omega (arith, length-take-le at out h)) in
    let p : take at out ++ ((a ++ (u ∷ [])) ++ drop n out) ≡ (take at out ++ a) ++ (u ∷ drop n out) = simp append_assoc in
    let q : take at out ++ ((a ++ (v ∷ [])) ++ drop n out) ≡ (take at out ++ a) ++ (v ∷ drop n out) = simp append_assoc in
    rw (p, n', q, l) (set-append_seam (take at out ++ a) u (drop n out) v)

-- a number's first digits at three places, its last behind the third and some of them behind the second, and two slashes, the second where
-- one digit too many stands
module _ (line : List ℕ) (at x y p q : ℕ) (top some rest thousands id : List ℕ) (d : ℕ)
    (is_x : x ≡ at + length top) (is_y : y ≡ x + 1 + length thousands) (is-p : p ≡ x + 1 + length top) (is-q : q ≡ y + 1 + length top)
    (of-thousands : thousands ++ (d ∷ []) ≡ top ++ some) (of_id : id ≡ top ++ rest) (room : y + 1 + length id ≤ length line) where
  of_four : length thousands + 1 ≡ length top + length some
  of_four = simp length-append at (ap length of-thousands)

  of_six : length id ≡ length top + length rest
  of_six = simp length-append at (ap length of_id)

  abbrev third : List ℕ
  third = splice line (y + 1) id

  length_third : length third ≡ length line
  length_third = length-splice line (y + 1) id room

  -- the last digits of the third
  behind : splice (thrice line at (x + 1) (y + 1) top) q rest ≡ splice (splice third (x + 1) top) at top
  behind =
      let six = of_six in
      let o₁ = splice line (y + 1) top in
      let l₁ : length o₁ ≡ length line = length-splice line (y + 1) top (omega arith) in
      let o₂ = splice o₁ (x + 1) top in
      let l₂ : length o₂ ≡ length line = length-splice o₁ (x + 1) top (omega (arith, of_four)) ∙ l₁ in
      splice_swap o₂ at top q rest (omega (arith, of_four)) (omega arith)
      ∙ ap (λ (o : List ℕ). splice o at top) (
      splice_swap o₁ (x + 1) top q rest (omega (arith, of_four)) (omega arith)
      ∙ ap (λ (o : List ℕ). splice o (x + 1) top) (
      ap (λ (k : ℕ). splice o₁ k rest) is-q ∙ splice_then line (y + 1) top (length top) rest refl (omega arith) ∙ ap (splice line (y + 1)) (sym of_id)))

  -- the last digits of the second, and one too many
  between : splice (splice (splice third (x + 1) top) at top) p some ≡ splice (splice third (x + 1) (thousands ++ (d ∷ []))) at top
  between =
      let l = length_third in
      let l₁ : length (splice third (x + 1) top) ≡ length line = length-splice third (x + 1) top (omega (arith, of_four)) ∙ l in
      splice_swap (splice third (x + 1) top) at top p some (omega arith) (omega (arith, of_four))
      ∙ ap (λ (o : List ℕ). splice o at top) (
      ap (λ (k : ℕ). splice (splice third (x + 1) top) k some) is-p
      ∙ splice_then third (x + 1) top (length top) some refl (omega (arith, of_four))
      ∙ ap (splice third (x + 1)) (sym of-thousands))

  -- the slashes
  slashes : set (set (splice (splice third (x + 1) (thousands ++ (d ∷ []))) at top) x 47) y 47 ≡ splice line at (top ++ (slash ++ (thousands ++ (slash ++ id))))
  slashes =
      let l = length_third in
      let o = splice third (x + 1) (thousands ++ (d ∷ [])) in
      let l₁ : length o ≡ length line = length-splice third (x + 1) (thousands ++ (d ∷ [])) (simp length-append (omega arith)) ∙ l in
      let l₂ : length (splice o at top) ≡ length line = length-splice o at top (omega arith) ∙ l₁ in
      let s₁ : set (splice o at top) x 47 ≡ splice o at (top ++ slash) =
      splice_one (splice o at top) x 47 (omega arith) ∙ ap (λ (k : ℕ). splice (splice o at top) k slash) is_x ∙ splice_then o at top (length top) slash refl (omega arith) in
      let n : length (top ++ slash) ≡ length top + 1 = length-append top slash in
      let m : length (thousands ++ slash) ≡ length thousands + 1 = length-append thousands slash in
      let l₃ : length (splice o at (top ++ slash)) ≡ length line = length-splice o at (top ++ slash) (omega arith) ∙ l₁ in
      let s₂ : set (splice o at (top ++ slash)) y 47 ≡ splice (splice third (x + 1) (thousands ++ slash)) at (top ++ slash) =
      splice_one (splice o at (top ++ slash)) y 47 (omega arith)
      ∙ splice_swap o at (top ++ slash) y slash (omega arith) (omega arith)
      ∙ ap (λ (z : List ℕ). splice z at (top ++ slash)) (sym (splice_one o y 47 (omega arith)) ∙ set_last third (x + 1) y thousands d 47 is_y (omega arith)) in
      let a : y + 1 ≡ x + 1 + (length thousands + 1) = omega arith in
      let s₃ : splice third (x + 1) (thousands ++ slash) ≡ splice line (x + 1) ((thousands ++ slash) ++ id) =
      ap (λ (k : ℕ). splice (splice line k id) (x + 1) (thousands ++ slash)) a ∙ splice_before line (x + 1) (thousands ++ slash) id (length thousands + 1) m (omega arith) in
      let b : x + 1 ≡ at + (length top + 1) = omega arith in
      let s₄ : splice (splice line (x + 1) ((thousands ++ slash) ++ id)) at (top ++ slash) ≡ splice line at ((top ++ slash) ++ ((thousands ++ slash) ++ id)) =
      ap (λ (k : ℕ). splice (splice line k ((thousands ++ slash) ++ id)) at (top ++ slash)) b
      ∙ splice_before line at (top ++ slash) ((thousands ++ slash) ++ id) (length top + 1) n (simp length-append (omega arith)) in
      ap (λ (z : List ℕ). set z y 47) s₁
      ∙ s₂
      ∙ ap (λ (z : List ℕ). splice z at (top ++ slash)) s₃
      ∙ s₄
      ∙ ap (splice line at) (simp append_assoc)

  slice_placed : {o₁ o₂ : List ℕ} → o₁ ≡ thrice line at (x + 1) (y + 1) top → o₂ ≡ splice (splice o₁ q rest) p some
      → set (set o₂ x 47) y 47 ≡ splice line at (top ++ (slash ++ (thousands ++ (slash ++ id))))
  slice_placed e₁ e₂ =
      ap (λ (o : List ℕ). set (set o x 47) y 47) (e₂ ∙ ap (λ (o : List ℕ). splice o p some) (ap (λ (o : List ℕ). splice o q rest) e₁ ∙ behind) ∙ between) ∙ slashes

-- what `put_tails` stores: three pairs, and the first two of them
pub tails_placed : (line : List ℕ) {o₁ o₂ o₃ o₄ o₅ : List ℕ} (thousands id tail : ℕ) → thousands + 4 ≤ id → id + 6 ≤ length line
    → let last = tail - tail / 10000 * 10000 in
    o₁ ≡ splice line id (pair (tail / 10000)) → o₂ ≡ splice o₁ (id + 2) (pair (last / 100)) → o₃ ≡ splice o₂ (id + 4) (pair (last - last / 100 * 100))
    → o₄ ≡ splice o₃ thousands (pair (tail / 10000)) → o₅ ≡ splice o₄ (thousands + 2) (pair (last / 100))
    → o₅ ≡ splice (splice line id (pair (tail / 10000) ++ four (tail % 10000))) thousands (four (tail / 100))
tails_placed line {o₁} {o₂} {o₃} {o₄} {o₅} thousands id tail h room e₁ e₂ e₃ e₄ e₅ =
    let last : ℕ = tail - tail / 10000 * 10000 in
    let high = pair (tail / 10000) in
    let middle = pair (last / 100) in
    let low = pair (last - last / 100 * 100) in
    let m : last / 100 ≡ tail % 10000 / 100 = omega arith in
    let l : last - last / 100 * 100 ≡ tail % 10000 % 100 = omega arith in
    let g : tail / 10000 ≡ tail / 100 / 100 = omega arith in
    let k : last / 100 ≡ tail / 100 % 100 = omega arith in
    let s₂ = splices_2 line id high middle 2 refl (omega arith) e₁ e₂ in
    let s₃ = splices_2 line id (high ++ middle) low 4 refl (omega arith) s₂ e₃ in
    let six : o₃ ≡ splice line id (high ++ four (tail % 10000)) = s₃ ∙ (λ i. splice line id (high ++ (pair (m i) ++ pair (l i)))) in
    let n : length o₃ ≡ length line = ap length six ∙ length-splice line id (high ++ four (tail % 10000)) (omega arith) in
    splices_2 o₃ thousands high middle 2 refl (omega arith) e₄ e₅ ∙ (λ i. splice (six i) thousands (pair (g i) ++ pair (k i)))

-- ---- a slice of a million and more

module _ (id width : ℕ) (long : 6 < width) (is-width : width ≡ length (decimal id)) where
  above : 999999 < id
  above = million id (omega arith)

  millionth : id / 1000 / 1000 ≡ id / 1000000
  millionth = omega arith

  pub top_width : width - 6 ≡ length (decimal (id / 1000000))
  top_width = omega (arith, millionth_width id) ∙ ap (λ (m : ℕ). length (decimal m)) millionth

  mid_width : width - 3 ≡ length (decimal (id / 1000))
  mid_width = omega (arith, thousandth_width id)

  pub path_length : length (slice_path id) ≡ width - 6 + 1 + (width - 3) + 1 + width
  path_length = omega (arith, slice_length id, millionth_width id, thousandth_width id)

  path : slice_path id ≡ decimal (id / 1000000) ++ (slash ++ (decimal (id / 1000) ++ (slash ++ decimal id)))
  unfolding slice_path
  path = ap (λ (m : ℕ). decimal m ++ (slash ++ (decimal (id / 1000) ++ (slash ++ decimal id)))) millionth

  -- what `put_long` stores
  pub puts_long : (line : List ℕ) {o₁ o₂ : List ℕ} (at x y tail : ℕ) → at + length (slice_path id) ≤ length line → tail ≡ id - id / 1000000 * 1000000
      → x ≡ at + (width - 6) → y ≡ x + 1 + (width - 3) → o₁ ≡ thrice line at (x + 1) (y + 1) (decimal (id / 1000000))
      → o₂ ≡ splice (splice o₁ (y + width - 5) (pair (tail / 10000) ++ four (tail % 10000))) (y - 3) (four (tail / 100))
      → Puts line at (slice_path id) (length (slice_path id)) (y + 1 + width) (set (set o₂ x 47) y 47)
  puts_long line at x y tail room t is_x is_y e₁ e₂ =
      let n = path_length in
      let w = top_width in
      let m = mid_width in
      record {
        leaves = slice_placed line at x y (y - 3) (y + width - 5) (decimal (id / 1000000)) (four (tail / 100)) (pair (tail / 10000) ++ four (tail % 10000)) (decimal (id / 1000)) (decimal id) (48 + tail / 100 % 100 % 10) (omega arith) (omega arith) (omega arith) (omega arith) (thousands_digits id tail above t) (id_digits id tail above t) (omega arith) e₁ e₂
            ∙ ap (splice line at) (sym path);
        ends = omega arith;
        fits = omega arith;
      }
